-- The number of each cause of a fault below the book. Assumes nothing.
--   cause_number c  1 for a place outside the table or the sizes, 2 for one that is empty or unpublished
use Rattle.std.specs.Prelude.{ℕ}
use Rattle.market.specs.declared.fault.Cause.{Cause}
use Rattle.market.specs.declared.fault.Cause.TheVariants.{Outside, Missing}

abbrev pub cause_number : Cause → ℕ
cause_number Outside = 1
cause_number Missing = 2
