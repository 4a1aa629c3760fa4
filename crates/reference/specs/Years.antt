-- The numbers of a history. Assumes nothing.
--   EachPrice xs     each lies from -1,000,000 to 1,000,000 cents
--   EachAverage xs   each lies from -12,000,000 to 12,000,000 twelfths of a cent
use Rattle.std.specs.Prelude.{ℕ, List, ℤ, pos, negsuc}
use Rattle.lists.specs.Lists.{Bounded, num}

abbrev pub EachPrice : List ℤ → Type 0
EachPrice xs = (k : ℕ) → Bounded (negsuc 999999) (pos 1000000) (num xs k)

abbrev pub EachAverage : List ℤ → Type 0
EachAverage xs = (k : ℕ) → Bounded (negsuc 11999999) (pos 12000000) (num xs k)
