-- What a policy may answer. Assumes nothing.
--   Reference z      z lies from -24,000,000 to 24,000,000 twelfths of a cent
--   Priced r         a price is within those bounds; of a fault nothing is asked
--   fault c l        the fault of a cause at a location
--   price_or_refuse l r  the price, or refusal 6 of the location l that was asked for, with the fault whole
--   missing l s      no price for any location and side
use Rattle.std.specs.Prelude.{ℤ, pos, negsuc, ◌≤ℤ◌, Ok, Err, Result}
use Rattle.market.specs.declared.fault.Cause.{Cause}
use Rattle.market.specs.declared.fault.Cause.TheVariants.{Missing}
use Rattle.market.specs.declared.fault.PolicyFault.{PolicyFault}
use Rattle.market.specs.declared.fault.Fault.{Fault}
use Rattle.market.specs.declared.fault.Fault.TheVariants.{NoPrice}
use Rattle.market.specs.declared.words.Side.{Side}

abbrev pub Reference : ℤ → Type 0
Reference z = (negsuc 23999999 ≤ℤ z) × (z ≤ℤ pos 24000000)

abbrev pub Priced : Result ℤ PolicyFault → Type 0
Priced (Ok z) = Reference z
Priced (Err f) = Unit {0}

abbrev pub fault : Cause → ℤ → PolicyFault
fault c l = record { cause = c; location = l }

abbrev pub price_or_refuse : ℤ → Result ℤ PolicyFault → Result ℤ Fault
price_or_refuse l (Ok z) = Ok z
price_or_refuse l (Err f) = Err (NoPrice (record { asked = l; fault = f }))

abbrev pub missing : ℤ → Side → Result ℤ PolicyFault
missing l s = Err (fault Missing l)

pub missing_priced : (l : ℤ) (s : Side) → Priced (missing l s)
missing_priced l s = tt
