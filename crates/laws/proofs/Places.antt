-- Places counted from 1 in a list.
use Rattle.std.proofs.Common.{◌≡◌, ℕ, zero, suc, ◌<◌, true, List, [], ◌∷◌, ◌++◌, length, ℤ, pos, negsuc, refl, ap, arith, length-set}
use Rattle.std.specs.List.{AllByRecursion}
use Rattle.std.proofs.ByRecursion.{All-set, All-get_or}
use Rattle.std.proofs.lemmas.Int.{ints}
use Rattle.std.proofs.lemmas.List.{get_or_append_left, get_or-set_same, get_or-set_other}
use Rattle.rules.specs.Words.{inside, count_of, at_place, replaced}
use Rattle.laws.proofs.Sums.{inside_out}

below : (n k : ℕ) → inside (pos 1) (pos k) (pos (suc n)) ≡ true → n < k
below n k e = let h = inside_out (pos 1) (pos k) (pos (suc n)) e in omega (arith, ints)

pub place_pushed : {X : Type 0} (d : X) (xs : List X) (x : X) (a : ℤ) → inside (pos 1) (count_of xs) a ≡ true
    → at_place d (xs ++ (x ∷ [])) a ≡ at_place d xs a
place_pushed d xs x (pos zero) e = refl
place_pushed d xs x (pos (suc n)) e = get_or_append_left xs (x ∷ []) d n (below n (length xs) e)
place_pushed d xs x (negsuc n) e = refl

pub place_set_same : {X : Type 0} (d : X) (xs : List X) (x : X) (a : ℤ) → inside (pos 1) (count_of xs) a ≡ true
    → at_place d (replaced xs a x) a ≡ x
place_set_same d xs x (pos zero) e = cc
place_set_same d xs x (pos (suc n)) e = get_or-set_same xs n x d (below n (length xs) e)
place_set_same d xs x (negsuc n) e = cc

pub place_set_other : {X : Type 0} (d : X) (xs : List X) (x : X) (a b : ℤ) → (b ≡ a → ⊥)
    → at_place d (replaced xs a x) b ≡ at_place d xs b
place_set_other d xs x (pos zero) b n = refl
place_set_other d xs x (negsuc i) b n = refl
place_set_other d xs x (pos (suc i)) (pos zero) n = refl
place_set_other d xs x (pos (suc i)) (pos (suc j)) n =
    get_or-set_other xs i j x d (λ e. n (ap (λ (k : ℕ). pos (suc k)) e))
place_set_other d xs x (pos (suc i)) (negsuc j) n = refl

pub place_all : {X : Type 0} (P : X → Type 0) (d : X) (xs : List X) (a : ℤ) → AllByRecursion P xs
    → inside (pos 1) (count_of xs) a ≡ true → P (at_place d xs a)
place_all P d xs (pos zero) all e = cc
place_all P d xs (pos (suc n)) all e = All-get_or P xs n d (below n (length xs) e) all
place_all P d xs (negsuc n) all e = cc

pub replaced_long : {X : Type 0} (xs : List X) (a : ℤ) (x : X) → length (replaced xs a x) ≡ length xs
replaced_long xs (pos zero) x = refl
replaced_long xs (pos (suc n)) x = length-set xs n x
replaced_long xs (negsuc n) x = refl

pub replaced_all : {X : Type 0} (P : X → Type 0) (xs : List X) (a : ℤ) (x : X) → AllByRecursion P xs → P x
    → AllByRecursion P (replaced xs a x)
replaced_all P xs (pos zero) x all p = all
replaced_all P xs (pos (suc n)) x all p = All-set P xs n x p all
replaced_all P xs (negsuc n) x all p = all
