-- The rank of the 95th percentile of n numbers. Assumes nothing.
--   PercentileRank n r   r is the least whole number with 20 × r ≥ 19 × n
--   percentile_rank n    that number, computed
use Rattle.std.specs.Prelude.{ℕ, ◌+◌, ◌*◌, ◌/◌, ◌≤◌}

pub record PercentileRank (n r : ℕ) : Type 0 where
  pub enough : 19 * n ≤ 20 * r
  pub least : (k : ℕ) → 19 * n ≤ 20 * k → r ≤ k

abbrev pub percentile_rank : ℕ → ℕ
percentile_rank n = (19 * n + 19) / 20
