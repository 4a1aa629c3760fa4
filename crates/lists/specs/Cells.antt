-- The cells of a table of rows and columns. Assumes nothing.
--   outside m n l h       the row l or the column h is outside m rows and n columns
--   cell n l h            the cell in a row and a column, row after row at n columns each
--   CellAmong m n l h r   r is the cell in a row and a column, or none outside
use Rattle.std.specs.Prelude.{◌≡◌, ℕ, ◌+◌, ◌-◌, ◌*◌, ◌<◌, Bool, true, false, not, ◌&&◌, ℤ, Some, None, Option, unsigned_abs}
use Rattle.lists.specs.Counted.{is_among}

abbrev pub outside : ℕ → ℕ → ℤ → ℤ → Bool
outside m n l h = not (is_among m l && is_among n h)

abbrev pub cell : ℕ → ℤ → ℤ → ℕ
cell n l h = (unsigned_abs l - 1) * n + (unsigned_abs h - 1)

abbrev pub CellAmong : ℕ → ℕ → ℤ → ℤ → Option ℕ → Type 0
CellAmong m n l h None = outside m n l h ≡ true
CellAmong m n l h (Some c) = (outside m n l h ≡ false) × (c ≡ cell n l h) × (c < m * n)
