-- Counts that grow with what passes. Assumes nothing.
use Rattle.std.proofs.Common.{◌≡◌, ◌<◌, ◌≤◌, ℕ, Bool, true, false, cond, List, get_or, count_by, ap, ◌∙◌, arith}
use Rattle.std.specs.List.{ContainsAt, AllByRecursion, remove}
use Rattle.std.proofs.lemmas.List.Sums.{sum_by-le-sum_by, sum_by-remove, get_or-le-sum_by}
use Rattle.std.proofs.lemmas.List.Elements.{recursion_from_All}
use Rattle.std.proofs.lemmas.Bool.{cond-true, cond-false}

module _ {X : Type 0} (p q : X → Bool) (weaker : (y : X) → p y ≡ true → q y ≡ true) where
  one_le : (x : X) → cond (p x) 1 0 ≤ cond (q x) 1 0
  one_le x = let f = weaker x in grind arith

  pub count_mono : (xs : List X) → count_by p xs ≤ count_by q xs
  count_mono xs = sum_by-le-sum_by (λ x. cond (p x) 1 0) (λ x. cond (q x) 1 0) xs one_le

  -- an element that passes one test alone
  pub count_less : (xs : List X) (x : X) → ContainsAt xs x → p x ≡ false → q x ≡ true → count_by p xs < count_by q xs
  count_less xs x (k, h, at) a b = omega (
    arith,
    count_mono (remove xs k),
    sum_by-remove (λ y. cond (p y) 1 0) xs k x h,
    sum_by-remove (λ y. cond (q y) 1 0) xs k x h,
    cond-false {A = ℕ} (p (get_or xs k x)) 1 0 (ap p (at x) ∙ a),
    cond-true {A = ℕ} (q (get_or xs k x)) 1 0 (ap q (at x) ∙ b),
  )

pub count_none : {X : Type 0} (p : X → Bool) (xs : List X) → count_by p xs ≡ 0 → AllByRecursion (λ x. p x ≡ false) xs
count_none p xs e = recursion_from_All (λ x. p x ≡ false) xs (λ k d h. let le = get_or-le-sum_by (λ x. cond (p x) 1 0) xs k d h in grind arith)

-- an element counts 1 where it passes, and so does the sum of all
abbrev pub one : {X : Type 0} → (X → Bool) → X → ℕ
one p x = cond (p x) 1 0

-- the test whether an element goes before x
abbrev pub goes : {X : Type 0} → (X → X → Bool) → X → X → Bool
goes before x y = before y x
