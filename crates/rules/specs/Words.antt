-- Small words on numbers and lists, in which the rules are written. Assumes nothing.
--   eq_z a b                whether two numbers are the same
--   inside low high z       whether z is from low to high, both included
--   rounded step z          how many steps z comes to: the nearest number, halves away from zero
--   count_of xs, first xs    how many there are; the first, where there is one
--   all_of test xs           whether all pass
--   sum_of f xs              the sum of what each gives
--   up_to n                  the numbers 1 to n
--   at_place other xs n      the one at place n, counted from 1, or the other where there is none
--   replaced xs n x         the list with x at that place
--   if_some o other f       what f makes of o, or the other where o is none
use Rattle.std.specs.Prelude.{ℕ, zero, suc, ◌+◌, ◌/◌, Bool, true, ◌&&◌, List, [], ◌∷◌, ◌++◌, length, ℤ, pos, negsuc, ◌+ℤ◌, neg_ℤ, Some, None, Option, int_le, slice_index_or, slice_set}

abbrev pub eq_z : ℤ → ℤ → Bool
eq_z a b = int_le a b && int_le b a

abbrev pub inside : ℤ → ℤ → ℤ → Bool
inside low high z = int_le low z && int_le z high

abbrev pub rounded : ℕ → ℤ → ℤ
rounded step (pos n) = pos ((n + step / 2) / step)
rounded step (negsuc n) = neg_ℤ (pos ((suc n + step / 2) / step))

abbrev pub count_of : {X : Type 0} → List X → ℤ
count_of xs = pos (length xs)

abbrev pub first : {X : Type 0} → List X → Option X
first [] = None
first (x ∷ xs) = Some x

abbrev pub all_of : {X : Type 0} → (X → Bool) → List X → Bool
all_of test [] = true
all_of test (x ∷ xs) = test x && all_of test xs

abbrev pub sum_of : {X : Type 0} → (X → ℤ) → List X → ℤ
sum_of f [] = pos 0
sum_of f (x ∷ xs) = f x +ℤ sum_of f xs

abbrev pub up_to : ℕ → List ℤ
up_to zero = []
up_to (suc n) = up_to n ++ (pos (suc n) ∷ [])

abbrev pub at_place : {X : Type 0} → X → List X → ℤ → X
at_place other xs (pos zero) = other
at_place other xs (pos (suc n)) = slice_index_or xs n other
at_place other xs (negsuc n) = other

abbrev pub replaced : {X : Type 0} → List X → ℤ → X → List X
replaced xs (pos zero) x = xs
replaced xs (pos (suc n)) x = slice_set xs n x
replaced xs (negsuc n) x = xs

abbrev pub if_some : {X Y : Type 0} → Option X → Y → (X → Y) → Y
if_some None other f = other
if_some (Some x) other f = f x
