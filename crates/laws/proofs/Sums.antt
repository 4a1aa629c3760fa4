-- Sums over the entries of an account: what leaving, changing and entering do to them.
use Rattle.std.proofs.Common.{◌≡◌, ◌*◌, ◌≤◌, Bool, true, false, cond, not, List, [], ◌∷◌, ◌++◌, map, ℤ, pos, negsuc, ◌+ℤ◌, ◌*ℤ◌, ◌≤ℤ◌, Some, filter, refl, ap, subst, mul-le-mul, arith}
use lib.Signed.{le_z}
use Rattle.std.specs.List.{AllByRecursion}
use Rattle.std.proofs.lemmas.Int.{ints}
use Rattle.rules.specs.Credit.{rate_of}
use Rattle.rules.specs.Words.{eq_z, inside, first, sum_of}

-- numbers

pub inside_out : (a b z : ℤ) → inside a b z ≡ true → (a ≤ℤ z) × (z ≤ℤ b)
inside_out a b z e = grind (arith, ints)

pub inside_in : (a b z : ℤ) → a ≤ℤ z → z ≤ℤ b → inside a b z ≡ true
inside_in a b z l h = grind (arith, ints)

pub eq_z_apart : (a b : ℤ) → (a ≡ b → ⊥) → eq_z a b ≡ false
eq_z_apart a b n = grind (arith, ints)

pub eq_z_same : (a b : ℤ) → a ≡ b → eq_z a b ≡ true
eq_z_same a b e = grind (arith, ints)

pub eq_z_true : (a b : ℤ) → eq_z a b ≡ true → a ≡ b
eq_z_true a b e = grind (arith, ints)

pub int_le_true : (a b : ℤ) → le_z a b ≡ true → a ≤ℤ b
int_le_true a b e = grind (arith, ints)

pub int_le_in : (a b : ℤ) → a ≤ℤ b → le_z a b ≡ true
int_le_in a b e = grind (arith, ints)

pub rate_low : (z : ℤ) → pos 0 ≤ℤ rate_of z
rate_low z = grind (arith, ints)

pub times_low : (q r : ℤ) → pos 0 ≤ℤ q → pos 0 ≤ℤ r → pos 0 ≤ℤ (q *ℤ r)
times_low (pos a) (pos b) p s = omega (arith, ints)
times_low (pos a) (negsuc b) p s = absurd (omega (arith, ints))
times_low (negsuc a) r p s = absurd (omega (arith, ints))

pub times_more : (q h r : ℤ) → pos 0 ≤ℤ q → q ≤ℤ h → pos 0 ≤ℤ r → (q *ℤ r) ≤ℤ (h *ℤ r)
times_more (pos a) (pos c) (pos b) p le s =
    let u : a ≤ c = omega (arith, ints) in
    let v : b ≤ b = omega arith in
    let m : a * b ≤ c * b = mul-le-mul u v in
    omega (arith, ints)
times_more (pos a) (pos c) (negsuc b) p le s = absurd (omega (arith, ints))
times_more (pos a) (negsuc c) r p le s = absurd (omega (arith, ints))
times_more (negsuc a) h r p le s = absurd (omega (arith, ints))

-- the sum over those that pass
abbrev pub sum_if : {X : Type 0} → (X → Bool) → (X → ℤ) → List X → ℤ
sum_if p f [] = pos 0
sum_if p f (x ∷ xs) = cond (p x) (f x) (pos 0) +ℤ sum_if p f xs

part_low : (t : Bool) (v : ℤ) → pos 0 ≤ℤ v → pos 0 ≤ℤ cond t v (pos 0)
part_low true v h = h
part_low false v h = omega (arith, ints)

part_more : (t : Bool) (v w : ℤ) → v ≤ℤ w → cond t v (pos 0) ≤ℤ cond t w (pos 0)
part_more true v w h = h
part_more false v w h = omega (arith, ints)

module _ {X : Type 0} (p : X → Bool) (f : X → ℤ) where
  kept_one : (t : Bool) (x : X) (ys : List X) (z : ℤ) → sum_of f ys ≡ z → sum_of f (cond t (x ∷ ys) ys) ≡ cond t (f x)
      (pos 0) +ℤ z
  kept_one true x ys z e = ap (λ (w : ℤ). f x +ℤ w) e
  kept_one false x ys z e = omega (arith, ints)

  pub sum_kept : (xs : List X) → sum_of f (filter p xs) ≡ sum_if p f xs
  sum_kept [] = refl
  sum_kept (x ∷ xs) = kept_one (p x) x (filter p xs) (sum_if p f xs) (sum_kept xs)

  shrunk_one : (t : Bool) (x : X) (ys : List X) (z : ℤ) → pos 0 ≤ℤ f x → sum_if p f ys ≤ℤ z
      → sum_if p f (cond t (x ∷ ys) ys) ≤ℤ (cond (p x) (f x) (pos 0) +ℤ z)
  shrunk_one true x ys z h e = omega (arith, ints)
  shrunk_one false x ys z h e = let k = part_low (p x) (f x) h in omega (arith, ints)

  -- some leave
  pub sum_shrunk : (keep : X → Bool) (xs : List X) → AllByRecursion (λ x. pos 0 ≤ℤ f x) xs → sum_if p f (filter keep xs) ≤ℤ sum_if
      p f xs
  sum_shrunk keep [] a = omega (arith, ints)
  sum_shrunk keep (x ∷ xs) a = shrunk_one (keep x) x (filter keep xs) (sum_if p f xs) a.0
      (sum_shrunk keep xs a.1)

  -- each changes, and none to more
  pub sum_changed : (g : X → X) (xs : List X) → AllByRecursion (λ x. (p (g x) ≡ p x) × (f (g x) ≤ℤ f x)) xs
      → sum_if p f (map g xs) ≤ℤ sum_if p f xs
  sum_changed g [] a = omega (arith, ints)
  sum_changed g (x ∷ xs) a =
      let r = sum_changed g xs a.1 in
      let k : cond (p (g x)) (f (g x)) (pos 0) ≤ℤ cond (p x) (f x) (pos 0) =
      rw a.0.0 (part_more (p x) (f (g x)) (f x) a.0.1) in
      omega (arith, ints)

  -- one enters
  pub sum_entered : (xs : List X) (x : X) → sum_if p f (xs ++ (x ∷ [])) ≡ sum_if p f xs +ℤ cond (p x) (f x) (pos 0)
  sum_entered [] x = omega (arith, ints)
  sum_entered (y ∷ xs) x = let e = sum_entered xs x in omega (arith, ints)

  -- none passes
  pub sum_none : (xs : List X) → AllByRecursion (λ x. p x ≡ false) xs → sum_if p f xs ≡ pos 0
  sum_none [] a = refl
  sum_none (x ∷ xs) a = let e = sum_none xs a.1 in rw a.0 (omega (arith, ints))

  spent_one : (x : X) (t : Bool) (y : X) (ks ns : List X) (z : ℤ) → pos 0 ≤ℤ f y → sum_if p f ns ≤ℤ z
      → (first ks ≡ Some x → (sum_if p f ns +ℤ cond (p x) (f x) (pos 0)) ≤ℤ z)
      → first (cond t (y ∷ ks) ks) ≡ Some x
      → (sum_if p f (cond (not t) (y ∷ ns) ns) +ℤ cond (p x) (f x) (pos 0)) ≤ℤ (cond (p y) (f y) (pos 0) +ℤ z)
  spent_one x true y ks ns z low le ih e =
      let h : y ≡ x = cc in
      let k : (sum_if p f ns +ℤ cond (p y) (f y) (pos 0)) ≤ℤ (cond (p y) (f y) (pos 0) +ℤ z) = omega (arith, ints) in
      subst (λ (v : X). (sum_if p f ns +ℤ cond (p v) (f v) (pos 0)) ≤ℤ (cond (p y) (f y) (pos 0) +ℤ z)) h k
  spent_one x false y ks ns z low le ih e = let h = ih e in omega (arith, ints)

  -- those with a mark leave, and the first of them counts once more
  pub sum_spent : (mark : X → Bool) (xs : List X) (x : X) → AllByRecursion (λ x. pos 0 ≤ℤ f x) xs
      → first (filter mark xs) ≡ Some x
      → (sum_if p f (filter (λ x. not (mark x)) xs) +ℤ cond (p x) (f x) (pos 0)) ≤ℤ sum_if p f xs
  sum_spent mark [] x a e = cc
  sum_spent mark (y ∷ xs) x a e =
      spent_one x (mark y) y (filter mark xs) (filter (λ x. not (mark x)) xs) (sum_if p f xs) a.0
      (sum_shrunk (λ x. not (mark x)) xs a.1) (sum_spent mark xs x a.1) e

pub sum_same : {X : Type 0} (p : X → Bool) (f g : X → ℤ) (xs : List X) → AllByRecursion (λ x. f x ≡ g x) xs
    → sum_if p f xs ≡ sum_if p g xs
sum_same p f g [] a = refl
sum_same p f g (x ∷ xs) a = let e = sum_same p f g xs a.1 in rw a.0 (omega (arith, ints))
