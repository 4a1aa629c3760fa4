-- A sum by index at one price more, and a weighed sum that fits. Assumes nothing.
use Rattle.std.proofs.Common.{◌≡◌, ℕ, zero, suc, ◌+◌, ◌<◌, List, take, drop, refl, ◌∙◌, ◌*◌, ◌^◌, ◌≤◌, ℤ, pos, ◌+ℤ◌, ◌*ℤ◌, neg_ℤ, ◌≤ℤ◌, div-le_self, add-one, arith, w64, SFits, rules}
use Rattle.std.proofs.lemmas.Nat.{mul-le}
use Rattle.std.proofs.lemmas.Int.{ints}
use Rattle.std.proofs.lemmas.List.{get_or-take, get_or-drop}
use Rattle.lists.specs.Lists.{num}
use Rattle.realtime.specs.Bounds.{scaled_low, scaled_high}
use Rattle.realtime.specs.Feeds.{summed, weight}

pub summed_more : (f : ℕ → ℤ) (n : ℕ) → summed f (n + 1) ≡ summed f n +ℤ f n
summed_more f n = rw add-one

pub weighed_fits : (per : ℕ) (z : ℤ) → neg_ℤ (pos (2 ^ 40)) ≤ℤ z → z ≤ℤ pos (2 ^ 40) → SFits w64 (pos (weight per) *ℤ z)
weighed_fits per z low high =
    let l = scaled_low (weight per) (2 ^ 40) z low in
    let u = scaled_high (weight per) (2 ^ 40) z high in
    let most : weight per * 2 ^ 40 ≤ 12 * 2 ^ 40 = mul-le (weight per) (2 ^ 40) 12 (2 ^ 40) (div-le_self 12 per) (omega arith) in
    search (rules, arith, ints)

pub summed_same : (f g : ℕ → ℤ) (n : ℕ) → ((i : ℕ) → i < n → f i ≡ g i) → summed f n ≡ summed g n
summed_same f g zero each = refl
summed_same f g (suc n) each =
    let before = summed_same f g n (λ i h. each i (omega arith)) in
    let last = each n (omega arith) in
    cc

-- the sum of the prices that stand from an index on
pub summed_part : (xs : List ℤ) (from n : ℕ) → summed (num (take n (drop from xs))) n ≡ summed (λ i. num xs (from + i)) n
summed_part xs from n = summed_same _ _ n (λ i h. get_or-take n (drop from xs) i (pos 0) h ∙ get_or-drop from xs i (pos 0))
