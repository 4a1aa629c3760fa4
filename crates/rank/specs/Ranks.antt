-- What the rank of an element is. Assumes nothing.
--   before cmp a b             a goes before b in the order of the comparison
--   StrictOrder before         nothing goes before itself, it is transitive, and of two different elements exactly one goes first
--   ahead before x xs          how many elements of the list go before x
--   Ranked before xs rank x    exactly rank - 1 elements of the list go before x
--   Picked before xs rank r    r is an element of the list of that rank, or none where no element has it
--   at_rank before xs rank     the first element of the list that has the rank, or none
--   Apart xs                   no two elements of the list are the same
use Rattle.std.specs.Prelude.{◌≡◌, ℕ, ◌+◌, Bool, true, false, not, cond, List, [], ◌∷◌, Some, None, count_by, Option, ◌≢◌, nat_eq}
use Rattle.std.specs.List.{ContainsAt, AllByRecursion}
use Rattle.std.specs.declared.cmp.Ordering.{Ordering}
use Rattle.std.specs.Ordering.{is_lt}

abbrev pub before : {X : Type 0} → (X → X → Ordering) → X → X → Bool
before cmp a b = is_lt (cmp a b)

pub record StrictOrder {X : Type 0} (before : X → X → Bool) : Type 0 where
  pub strict : (x : X) → before x x ≡ false
  pub transitive : (x y z : X) → before x y ≡ true → before y z ≡ true → before x z ≡ true
  pub decides : (x y : X) → (x ≢ y) → before x y ≡ not (before y x)

abbrev pub ahead : {X : Type 0} → (X → X → Bool) → X → List X → ℕ
ahead before x xs = count_by (λ y. before y x) xs

abbrev pub Ranked : {X : Type 0} → (X → X → Bool) → List X → ℕ → X → Type 0
Ranked before xs rank x = ahead before x xs + 1 ≡ rank

abbrev pub Picked : {X : Type 0} → (X → X → Bool) → List X → ℕ → Option X → Type 0
Picked before xs rank (Some x) = ContainsAt xs x × Ranked before xs rank x
Picked before xs rank None = AllByRecursion (λ x. Ranked before xs rank x → ⊥) xs

abbrev pub first_with : {X : Type 0} → (X → Bool) → List X → Option X
first_with passes [] = None
first_with passes (x ∷ xs) = cond (passes x) (Some x) (first_with passes xs)

abbrev pub at_rank : {X : Type 0} → (X → X → Bool) → List X → ℕ → Option X
at_rank before xs rank = first_with (λ x. nat_eq (ahead before x xs + 1) rank) xs

abbrev pub Apart : {X : Type 0} → List X → Type 0
Apart [] = Unit {0}
Apart (x ∷ xs) = AllByRecursion (λ y. x ≢ y) xs × Apart xs
