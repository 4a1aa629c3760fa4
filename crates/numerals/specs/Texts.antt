-- A refused text as text. Assumes nothing.
--   bad_text e   "word 4 is not a number", or "no memory"
use Rattle.std.specs.Prelude.{ℕ, List, ◌++◌, codes, decimal}
use Rattle.numerals.specs.declared.BadText.{BadText}
use Rattle.numerals.specs.declared.BadText.TheVariants.{NotANumber, NoMemory}

abbrev pub bad_text : BadText → List ℕ
bad_text (NotANumber word) = codes "word " ++ (decimal word ++ codes " is not a number")
bad_text NoMemory = codes "no memory"
