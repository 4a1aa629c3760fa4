-- What a source may answer, and what becomes of its answer. Assumes nothing.
--   Averaged a           an average lies from -12,000,000 to 12,000,000 twelfths; of a fault it says nothing
--   average_or_fault l a  the average, or the book's fault of a source, with the location that was asked for
use Rattle.std.specs.Prelude.{ℤ, pos, negsuc, ◌≤ℤ◌, Ok, Err, Result}
use Rattle.market.specs.declared.fault.Fault.{Fault}
use Rattle.market.specs.declared.fault.Fault.TheVariants.{NoAverage}
use Rattle.market.specs.declared.fault.SourceFault.{SourceFault}

abbrev pub Averaged : Result ℤ SourceFault → Type 0
Averaged (Ok t) = (negsuc 11999999 ≤ℤ t) × (t ≤ℤ pos 12000000)
Averaged (Err f) = Unit {0}

abbrev pub average_or_fault : ℤ → Result ℤ SourceFault → Result ℤ Fault
average_or_fault l (Ok t) = Ok t
average_or_fault l (Err f) = Err (NoAverage (record { asked = l; fault = f }))
