-- The bounds of a posted price. Assumes nothing.
--   in_reference z   the test of a reference price's bounds
--   fair o           an entry is empty or within those bounds
use Rattle.std.specs.Prelude.{Bool, true, ◌&&◌, ℤ, pos, negsuc, Some, None, Option, int_le}

abbrev pub in_reference : ℤ → Bool
in_reference z = int_le (negsuc 23999999) z && int_le z (pos 24000000)

abbrev pub fair : Option ℤ → Bool
fair None = true
fair (Some z) = in_reference z
