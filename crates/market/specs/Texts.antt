-- Refusals, faults and words as text. Assumes nothing.
--   fault_text f         the letter of its layer, its number and its place, parted by one space, as in "B 1 2"
--   policy_fault_text f, source_fault_text f  the number of its cause and its location, as in "cause 2 at location 7"
--   side_text s          "supply" or "demand"
--   unknown_letter_text e  the letter that no case has, as in "no case has the letter x"
use Rattle.std.specs.Prelude.{ℕ, List, ◌∷◌, ◌++◌, ℤ, codes, decimal}
use Rattle.std.specs.Fmt.{signed_decimal}
use Rattle.std.specs.Char.{encode_utf8}
use Rattle.market.specs.declared.fault.Cause.{Cause}
use Rattle.market.specs.declared.fault.Fault.{Fault}
use Rattle.market.specs.declared.fault.PolicyFault.{PolicyFault}
use Rattle.market.specs.declared.fault.SourceFault.{SourceFault}
use Rattle.market.specs.declared.words.Side.{Side}
use Rattle.market.specs.declared.words.Side.TheVariants.{Supply, Demand}
use Rattle.market.specs.declared.words.UnknownLetter.{UnknownLetter}
use Rattle.market.specs.Causes.{cause_number}
use Rattle.market.specs.Faults.{fault_number, fault_place, fault_layer}
use Rattle.market.specs.Letters.{layer_letter}

abbrev pub fault_text : Fault → List ℕ
fault_text f = layer_letter (fault_layer f) ∷ 32 ∷ (decimal (fault_number f) ++ (32 ∷ signed_decimal (fault_place f)))

abbrev pub cause_at : Cause → ℤ → List ℕ
cause_at c l = codes "cause " ++ (decimal (cause_number c) ++ (codes " at location " ++ signed_decimal l))

abbrev pub policy_fault_text : PolicyFault → List ℕ
policy_fault_text f = cause_at f.cause f.location

abbrev pub source_fault_text : SourceFault → List ℕ
source_fault_text f = cause_at f.cause f.location

abbrev pub side_text : Side → List ℕ
side_text Supply = codes "supply"
side_text Demand = codes "demand"

abbrev pub unknown_letter_text : UnknownLetter → List ℕ
unknown_letter_text e = codes "no case has the letter " ++ encode_utf8 e.0
