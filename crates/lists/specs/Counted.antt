-- Numbers that count from 1. Assumes nothing.
--   is_among m n           n is one of 1 to m
--   CountedFromOne m n r   r is the index of n, counted from 0, or none where it is not one of 1 to m
use Rattle.std.specs.Prelude.{◌≡◌, ℕ, ◌-◌, ◌<◌, Bool, true, false, ◌&&◌, ℤ, pos, Some, None, Option, int_le, unsigned_abs}

abbrev pub is_among : ℕ → ℤ → Bool
is_among m n = int_le (pos 1) n && int_le n (pos m)

abbrev pub CountedFromOne : ℕ → ℤ → Option ℕ → Type 0
CountedFromOne m n None = is_among m n ≡ false
CountedFromOne m n (Some i) = (is_among m n ≡ true) × (i ≡ unsigned_abs n - 1) × (i < m)
