-- Why the average of a feed is within a source's bounds: (12 / per) × per is at most 12. Assumes nothing.
--   feed_averaged   what a feed means is an average within its bounds, or a fault
use Rattle.std.specs.Prelude.{◌≡◌, ℕ, zero, suc, ◌+◌, ◌-◌, ◌*◌, ◌<◌, ◌≤◌, true, false, ◌&&◌, List, ℤ, pos, negsuc, ◌*ℤ◌, neg_ℤ, ◌≤ℤ◌, Ok, int_le, unsigned_abs}
use Rattle.std.proofs.Common.{sym, mul_left_comm, mul_comm, add-mul, add_assoc, arith}
use Rattle.std.proofs.Math.IntN.{pos-*ℤ-pos, pos-*ℤ-negsuc}
use Rattle.std.proofs.lemmas.Nat.{mul-le, mul-add-lt, div-add-mod'}
use Rattle.std.proofs.lemmas.Int.{ints}
use Rattle.std.proofs.lemmas.Bool.{leb-true, and_parts, not-false, cond_both, true≢false}
use Rattle.lists.specs.Counted.{is_among}
use Rattle.lists.specs.Lists.{Bounded}
use Rattle.realtime.specs.Sources.{Averaged}
use Rattle.lists.specs.Cells.{outside, cell}
use Rattle.realtime.specs.Feeds.{published, price, summed, weight, average, feed_meaning, Priced}

-- a number that is one of so many has an index among them
pub within_size : (size : ℕ) (n : ℤ) → is_among size n ≡ true → unsigned_abs n - 1 < size
within_size size (pos k) e =
    let p = and_parts (int_le (pos 1) (pos k)) (int_le (pos k) (pos size)) e in
    omega (arith, leb-true 1 k p.0, leb-true k size p.1)
within_size size (negsuc k) e = absurd (true≢false (sym e))

pub both_among : (m n : ℕ) (l h : ℤ) → outside m n l h ≡ false → (is_among m l ≡ true) × (is_among n h ≡ true)
both_among m n l h e = and_parts (is_among m l) (is_among n h) (not-false (is_among m l && is_among n h) e)

pub within_cells : (m n : ℕ) (l h : ℤ) → outside m n l h ≡ false → cell n l h < m * n
within_cells m n l h e =
    let p = both_among m n l h e in
    omega (arith, mul-add-lt (unsigned_abs l - 1) n (unsigned_abs h - 1) m (within_size m l p.0) (within_size n h p.1), mul_comm m n)

-- an interval of a cell is among the prices of all cells
pub within_prices : (all c per i : ℕ) → c < all → i < per → c * per + i < all * per
within_prices all c per i h k = omega (arith, mul-le (c + 1) per all per (omega arith) (omega arith), add-mul c 1 per)

pub weight_low : (per : ℕ) → weight per * per ≤ 12
weight_low per = omega (arith, div-add-mod' 12 per)

module _ (f : ℕ → ℤ) where
  pub summed_low : (n : ℕ) → ((i : ℕ) → i < n → Bounded (negsuc 999999) (pos 1000000) (f i)) → neg_ℤ (pos (1000000 * n)) ≤ℤ summed f n
  summed_low zero each = omega (arith, ints)
  summed_low (suc n) each =
      let before = summed_low n (λ i h. each i (omega arith)) in
      omega (arith, ints, (each n (omega arith)).0)

  pub summed_high : (n : ℕ) → ((i : ℕ) → i < n → Bounded (negsuc 999999) (pos 1000000) (f i)) → summed f n ≤ℤ pos (1000000 * n)
  summed_high zero each = omega (arith, ints)
  summed_high (suc n) each =
      let before = summed_high n (λ i h. each i (omega arith)) in
      omega (arith, ints, (each n (omega arith)).1)

module _ (a n : ℕ) where
  pub scaled_low : (z : ℤ) → neg_ℤ (pos n) ≤ℤ z → neg_ℤ (pos (a * n)) ≤ℤ (pos a *ℤ z)
  scaled_low (pos m) h = rw (pos-*ℤ-pos a m) (omega (arith, ints))
  scaled_low (negsuc m) h =
      let k : suc m ≤ n = omega (arith, ints) in
      rw pos-*ℤ-negsuc (omega (arith, ints, mul-le a (suc m) a n (omega arith) k))

  pub scaled_high : (z : ℤ) → z ≤ℤ pos n → (pos a *ℤ z) ≤ℤ pos (a * n)
  scaled_high (pos m) h =
      let k : m ≤ n = omega (arith, ints) in
      rw (pos-*ℤ-pos a m) (omega (arith, ints, mul-le a m a n (omega arith) k))
  scaled_high (negsuc m) h = rw pos-*ℤ-negsuc (omega (arith, ints))

-- a sum of `per` prices, weighed
pub weighed : (per : ℕ) (z : ℤ) → neg_ℤ (pos (1000000 * per)) ≤ℤ z → z ≤ℤ pos (1000000 * per) → Bounded (negsuc 11999999) (pos 12000000) (pos (weight per) *ℤ z)
weighed per z low high =
    let most : weight per * (1000000 * per) ≤ 12000000 = omega (arith, mul-le (weight per * per) 1000000 12 1000000 (weight_low per) (omega arith), mul_left_comm (weight per) 1000000 per, mul_comm (weight per * per) 1000000) in
    let l = scaled_low (weight per) (1000000 * per) z low in
    let u = scaled_high (weight per) (1000000 * per) z high in
    (omega (arith, ints), omega (arith, ints))

pub average_bounded : (per : ℕ) (xs : List ℤ) (all c : ℕ) → c < all → Priced per xs all → Averaged (Ok (average per xs all c))
average_bounded per xs all c h priced =
    let each : (i : ℕ) → i < per → Bounded (negsuc 999999) (pos 1000000) (price per xs all c i) = λ i k.
    rw (add_assoc (2 + all) (c * per) i) (priced (c * per + i) (within_prices all c per i h k)) in
    weighed per (summed (price per xs all c) per) (summed_low (price per xs all c) per each) (summed_high (price per xs all c) per each)

pub feed_averaged : (per : ℕ) (xs : List ℤ) (m n : ℕ) → Priced per xs (m * n) → (l h : ℤ) → Averaged (feed_meaning per xs m n l h)
feed_averaged per xs m n priced l h =
    cond_both (outside m n l h) _ _ Averaged (λ _. tt) (λ inside.
    cond_both (published xs (cell n l h)) _ _ Averaged (λ _. average_bounded per xs (m * n) (cell n l h) (within_cells m n l h inside) priced) (λ _. tt))
