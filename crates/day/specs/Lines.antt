-- The bytes of the lines that the day prints. Assumes nothing.
--   quote_text l s r       "location 3 supply: 19", or "location 3 supply: no price, cause 2 at location 3"
--   average_text l h r     "location 3 hour 2: 49803", or "location 3 hour 2: no average, cause 2 at location 3"
--   refusal_text file f    "history.txt: refused P 1 0"
--   bad_word_text file k   "history.txt: word 4 is not a number"
use Rattle.std.specs.Prelude.{ℕ, List, ◌++◌, ℤ, Ok, Err, codes, decimal, Result}
use Rattle.std.specs.Fmt.{signed_decimal}
use Rattle.market.specs.declared.fault.Fault.{Fault}
use Rattle.market.specs.declared.fault.PolicyFault.{PolicyFault}
use Rattle.market.specs.declared.fault.SourceFault.{SourceFault}
use Rattle.market.specs.declared.words.Side.{Side}
use Rattle.market.specs.Texts.{side_text, policy_fault_text, source_fault_text, fault_text}

abbrev pub quote_text : ℤ → Side → Result ℤ PolicyFault → List ℕ
quote_text l s (Ok price) = codes "location " ++ (signed_decimal l ++ (codes " " ++ (side_text s ++ (codes ": " ++ signed_decimal price))))
quote_text l s (Err f) = codes "location " ++ (signed_decimal l ++ (codes " " ++ (side_text s ++ (codes ": no price, " ++ policy_fault_text f))))

abbrev pub average_text : ℤ → ℤ → Result ℤ SourceFault → List ℕ
average_text l h (Ok t) = codes "location " ++ (signed_decimal l ++ (codes " hour " ++ (signed_decimal h ++ (codes ": " ++ signed_decimal t))))
average_text l h (Err f) = codes "location " ++ (signed_decimal l ++ (codes " hour " ++ (signed_decimal h ++ (codes ": no average, " ++ source_fault_text f))))

abbrev pub refusal_text : List ℕ → Fault → List ℕ
refusal_text file f = file ++ (codes ": refused " ++ fault_text f)

abbrev pub bad_word_text : List ℕ → ℕ → List ℕ
bad_word_text file k = file ++ (codes ": word " ++ (decimal k ++ codes " is not a number"))
