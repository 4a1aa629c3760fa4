-- Rounding to the nearest, halves away from zero, gives one number.
use Rattle.std.proofs.Common.{◌≡◌, ℕ, ℤ, pos, negsuc, ◌+ℤ◌, ◌*ℤ◌, ◌≤ℤ◌, ◌<ℤ◌, arith}
use Rattle.std.proofs.lemmas.Int.{ints, by_lt_z}
use Rattle.rules.specs.Awards.{cents_of}
use Rattle.rules.specs.Words.{rounded}
use Rattle.laws.specs.Money.{Nearest, RoundingLaws}

pub cents : (a : ℤ) → Nearest 120 a (cents_of a)
cents (pos n) = search (arith, ints)
cents (negsuc n) = search (arith, ints)

adjustments : (a : ℤ) → Nearest 400000 a (rounded 400000 a)
adjustments (pos n) = search (arith, ints)
adjustments (negsuc n) = search (arith, ints)

-- of two whole numbers of steps that are near, the lower is a step away from the higher
less : (step : ℕ) (a c d : ℤ) → Nearest step a c → Nearest step a d → ((pos step *ℤ c) +ℤ pos step) ≤ℤ (pos step *ℤ d)
    → ⊥
less step a c d m n h =
    let p : a <ℤ pos 0 = m.tie_up (omega (arith, ints)) in
    let q : pos 0 <ℤ a = n.tie_down (omega (arith, ints)) in
    omega (arith, ints)

one_nearest : (step : ℕ) → ((c d : ℤ) → c <ℤ d → ((pos step *ℤ c) +ℤ pos step) ≤ℤ (pos step *ℤ d))
    → (a c d : ℤ) → Nearest step a c → Nearest step a d → c ≡ d
one_nearest step apart a c d m n =
    by_lt_z c d (λ h. absurd (less step a c d m n (apart c d h)))
    (λ h. by_lt_z d c (λ k. absurd (less step a d c n m (apart d c k))) (λ k. omega (arith, ints)))

pub rounding : RoundingLaws
rounding = record {
  cents = cents;
  cents_only = one_nearest 120 (λ c d h. omega (arith, ints));
  adjustments = adjustments;
  adjustments_only = one_nearest 400000 (λ c d h. omega (arith, ints));
}
