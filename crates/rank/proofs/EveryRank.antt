-- Where no two elements are the same, each rank up to the length has an element, and elements of one rank are not before one another. Assumes nothing.
use Rattle.std.proofs.Common.{◌≡◌, ℕ, zero, suc, ◌+◌, ◌-◌, ◌<◌, ◌≤◌, Bool, true, false, cond, not, eqb, List, [], ◌∷◌, ◌++◌, length, Some, sym, refl, ap, ◌∙◌, subst, ⊎_elim, arith}
use Rattle.std.specs.List.{ContainsAt, AllByRecursion}
use Rattle.std.proofs.lemmas.List.Sums.{sum_by-cons, count_by-le-length}
use Rattle.std.proofs.ByRecursion.{all-has, All-push, has_append_right}
use Rattle.std.proofs.lemmas.Bool.{cases_Bool, cases_order, cond-true, cond-false, eq-eqb, eqb-true}
use Rattle.rank.specs.Ranks.{ahead, first_with, at_rank, Apart}
use Rattle.rank.proofs.Counts.{count_mono, count_less}

has_here : {X : Type 0} (x : X) (xs : List X) → ContainsAt (x ∷ xs) x
has_here x xs = (0, omega arith, λ d. refl)

has_later : {X : Type 0} (y x : X) (xs : List X) → ContainsAt xs x → ContainsAt (y ∷ xs) x
has_later y x xs h = has_append_right (y ∷ []) xs x h

-- one element more at the end, unlike all before it
pub apart_push : {X : Type 0} (xs : List X) (y : X) → Apart xs → AllByRecursion (λ x. x ≡ y → ⊥) xs → Apart (xs ++ y ∷ [])
apart_push [] y a b = (tt, tt)
apart_push (x ∷ xs) y a b = (All-push (λ z. x ≡ z → ⊥) xs y a.0 b.0, apart_push xs y a.1 b.1)

-- the first that passes does, and stands in the list; there is one where some element passes
pub first_passes : {X : Type 0} (p : X → Bool) (xs : List X) (x : X) → first_with p xs ≡ Some x → ContainsAt xs x × (p x ≡ true)
first_passes p [] x e = cc
first_passes p (y ∷ ys) x e =
    ⊎_elim
    (λ t. let same : y ≡ x = cc (cond-true (p y) (Some y) (first_with p ys) t) in
    (subst (λ z. ContainsAt (y ∷ ys) z) same (has_here y ys), subst (λ z. p z ≡ true) same t))
    (λ f. let r = first_passes p ys x (sym (cond-false (p y) (Some y) (first_with p ys) f) ∙ e) in (has_later y x ys r.0, r.1))
    (cases_Bool (p y))

pub some_passes : {X : Type 0} (p : X → Bool) (xs : List X) (x : X) → ContainsAt xs x → p x ≡ true → (y : X) × (first_with p xs ≡ Some y)
some_passes p [] x (k, h, at) e = absurd (omega arith)
some_passes p (y ∷ ys) x (zero, h, at) e = (y, cond-true (p y) (Some y) (first_with p ys) (ap p (at x) ∙ e))
some_passes p (y ∷ ys) x (suc k, h, at) e =
    ⊎_elim (λ t. (y, cond-true (p y) (Some y) (first_with p ys) t))
    (λ f. let r = some_passes p ys x (k, omega arith, at) e in (r.0, cond-false (p y) (Some y) (first_with p ys) f ∙ r.1))
    (cases_Bool (p y))

module _ {X : Type 0} (before : X → X → Bool) (strict : (x : X) → before x x ≡ false)
    (trans : (x y z : X) → before x y ≡ true → before y z ≡ true → before x z ≡ true)
    (decides : (x y : X) → (x ≡ y → ⊥) → before x y ≡ not (before y x)) where
  ahead_cons : (y : X) (ys : List X) (x : X) → ahead before x (y ∷ ys) ≡ cond (before y x) 1 0 + ahead before x ys
  ahead_cons y ys x = sum_by-cons (λ z. cond (before z x) 1 0) y ys

  ahead_le : (xs : List X) (x y : X) → before x y ≡ true → ahead before x xs ≤ ahead before y xs
  ahead_le xs x y e = count_mono (λ z. before z x) (λ z. before z y) (λ z h. trans z x y h e) xs

  ahead_less : (xs : List X) (x y : X) → ContainsAt xs x → before x y ≡ true → ahead before x xs < ahead before y xs
  ahead_less xs x y h e = count_less (λ z. before z x) (λ z. before z y) (λ z b. trans z x y b e) xs x h (strict x) e

  -- elements of one rank are not before one another
  pub same_rank : (xs : List X) (x y : X) → ContainsAt xs x → ahead before x xs ≡ ahead before y xs → before x y ≡ false
  same_rank xs x y h e = let l = ahead_less xs x y h in grind arith

  -- an element of the rest that keeps its count, since y does not go before it
  lower : (y : X) (ys : List X) (r : ℕ) (x : X) → ContainsAt ys x → ahead before x ys ≡ r → r < ahead before y ys → ahead before x (y ∷ ys) ≡ r
  lower y ys r x h e low =
      let c = ahead_cons y ys x in let l = ahead_le ys y x in grind arith

  -- an element of the rest that y goes before
  upper : (y : X) (ys : List X) (r : ℕ) (x : X) → ContainsAt ys x → (y ≡ x → ⊥) → ahead before x ys ≡ r → ahead before y ys ≤ r → ahead before x (y ∷ ys) ≡ r + 1
  upper y ys r x h ne e high =
      let c = ahead_cons y ys x in let l = ahead_less ys x y h in let d = decides x y (λ p. ne (sym p)) in grind arith

  -- the element that has r others before it
  pub every_rank : (xs : List X) → Apart xs → (r : ℕ) → r < length xs → (x : X) × ContainsAt xs x × (ahead before x xs ≡ r)
  every_rank [] a r h = absurd (omega arith)
  every_rank (y ∷ ys) a r h =
      ⊎_elim (λ e. (y, has_here y ys, omega (arith, ahead_cons y ys y, cond-false {A = ℕ} (before y y) 1 0 (strict y))))
      (⊎_elim
      (λ low. let i = every_rank ys a.1 r (omega (arith, count_by-le-length (λ z. before z y) ys)) in
      (i.0, has_later y i.0 ys i.1, lower y ys r i.0 i.1 i.2 low))
      (λ high. let i = every_rank ys a.1 (r - 1) (omega arith) in (
        i.0,
        has_later y i.0 ys i.1,
        upper y ys (r - 1) i.0 i.1 (all-has (λ z. y ≡ z → ⊥) ys i.0 a.0 i.1) i.2 (omega arith) ∙ omega arith,
      )))
      (cases_order r (ahead before y ys))

  -- so the first element of a rank is there
  pub at_every_rank : (xs : List X) → Apart xs → (rank : ℕ) → 0 < rank → rank ≤ length xs → (x : X) × (at_rank before xs rank ≡ Some x)
  at_every_rank xs a rank h l =
      let i = every_rank xs a (rank - 1) (omega arith) in
      some_passes (λ x. eqb (ahead before x xs + 1) rank) xs i.0 i.1 (eq-eqb (ahead before i.0 xs + 1) rank (omega (arith, i.2)))

  -- and no element of that rank is before it, or after it
  pub tied_at_rank : (xs : List X) (rank : ℕ) (x y : X) → at_rank before xs rank ≡ Some x → ContainsAt xs y → ahead before y xs + 1 ≡ rank
      → (before x y ≡ false) × (before y x ≡ false)
  tied_at_rank xs rank x y e h r =
      let f = first_passes (λ z. eqb (ahead before z xs + 1) rank) xs x e in
      let q : ahead before x xs + 1 ≡ rank = eqb-true (ahead before x xs + 1) rank f.1 in
      (same_rank xs x y f.0 (omega arith), same_rank xs y x h (omega arith))
