-- The letter of each side, class, period and layer. Assumes nothing.
--   side_letter s, class_letter c, period_letter p, layer_letter l  the code of its letter
--   Named letter_of letter r  r is the case whose letter that is, or none where no case has it
--   Reads letter_of named letter r  r has the case that is named so, and only that; of no case it has the letter back
--   side_named c, class_named c, period_named c, layer_named c  the case that the letter of code c names, or none
use Rattle.std.specs.Prelude.{◌≡◌, ℕ, cond, Some, None, Option, Result, IfErr, ◌==◌, ◌≢◌}
use Rattle.std.specs.Result.{result_ok}
use Rattle.market.specs.declared.words.Side.{Side}
use Rattle.market.specs.declared.words.Side.TheVariants.{Supply, Demand}
use Rattle.market.specs.declared.words.Class.{Class}
use Rattle.market.specs.declared.words.Class.TheVariants.{Node, Aggregate, LoadPoint, Hub, Intertie}
use Rattle.market.specs.declared.words.Period.{Period}
use Rattle.market.specs.declared.words.Period.TheVariants.{Peak, OffPeak}
use Rattle.market.specs.declared.words.Layer.{Layer}
use Rattle.market.specs.declared.words.Layer.TheVariants.{Book, Policy, RealTime}
use Rattle.market.specs.declared.words.UnknownLetter.{UnknownLetter}

-- S and D
abbrev pub side_letter : Side → ℕ
side_letter Supply = 83
side_letter Demand = 68

-- N, A, L, T and I
abbrev pub class_letter : Class → ℕ
class_letter Node = 78
class_letter Aggregate = 65
class_letter LoadPoint = 76
class_letter Hub = 84
class_letter Intertie = 73

-- P and O
abbrev pub period_letter : Period → ℕ
period_letter Peak = 80
period_letter OffPeak = 79

-- B, P and R
abbrev pub layer_letter : Layer → ℕ
layer_letter Book = 66
layer_letter Policy = 80
layer_letter RealTime = 82

abbrev pub Named : {X : Type 0} → (X → ℕ) → ℕ → Option X → Type 0
Named letter_of letter (Some x) = letter_of x ≡ letter
Named {X = X} letter_of letter None = (x : X) → letter_of x ≢ letter

pub record Reads {X : Type 0} (letter_of : X → ℕ) (named : ℕ → Option X) (letter : ℕ) (r : Result X UnknownLetter) : Type 0 where
  pub its_case : Named letter_of letter (result_ok r)
  pub value : result_ok r ≡ named letter
  pub unknown : IfErr r (λ e. e.0 ≡ letter)

abbrev pub side_named : ℕ → Option Side
side_named c = cond (c == side_letter Supply) (Some Supply) (cond (c == side_letter Demand) (Some Demand) None)

abbrev pub class_named : ℕ → Option Class
class_named c =
    cond (c == class_letter Node) (Some Node) (cond (c == class_letter Aggregate) (Some Aggregate)
    (cond (c == class_letter LoadPoint) (Some LoadPoint) (cond (c == class_letter Hub) (Some Hub)
    (cond (c == class_letter Intertie) (Some Intertie) None))))

abbrev pub period_named : ℕ → Option Period
period_named c = cond (c == period_letter Peak) (Some Peak) (cond (c == period_letter OffPeak) (Some OffPeak) None)

abbrev pub layer_named : ℕ → Option Layer
layer_named c =
    cond (c == layer_letter Book) (Some Book) (cond (c == layer_letter Policy) (Some Policy)
    (cond (c == layer_letter RealTime) (Some RealTime) None))
