-- A text as numbers parted by white space. Assumes nothing.
--   NextWord bs word rest   after white space comes that word, and then the rest, empty or white space first
--   is_number word x         the word is a decimal number, with a sign or without, of value x
--   Spelt bs xs rest        the text begins with words that are these numbers, and then comes the rest
--   NumbersRead bs r        r has the numbers of the whole text, or the index of the first word that is none of 32 bits
use Rattle.std.specs.Prelude.{◌≡◌, ℕ, ◌<◌, List, [], ◌∷◌, ◌++◌, length, ℤ, Ok, Err, vec_items, Result, Vec, FitsSigned}
use Rattle.std.specs.Int.{w32}
use Rattle.std.specs.Str.Parse.{IsNumeral, without_leading_sign, signed_digits_value}
use Rattle.std.specs.Char.{is_whitespace, is_not_whitespace}
use Rattle.std.specs.Str.{NoCharPasses, EmptyOrStartsWithPassing}
use Rattle.numerals.specs.declared.BadText.{BadText}
use Rattle.numerals.specs.declared.BadText.TheVariants.{NotANumber, NoMemory}

pub record NextWord (bs word rest : List ℕ) : Type 0 where
  pub gap : List ℕ
  pub cut : bs ≡ gap ++ (word ++ rest)
  pub some : 0 < length word
  pub gap_white : NoCharPasses is_not_whitespace gap
  pub word_dark : NoCharPasses is_whitespace word
  pub parted : (more : List ℕ) × EmptyOrStartsWithPassing is_whitespace rest more

-- a number of 32 bits
abbrev pub is_number : List ℕ → ℤ → Type 0
is_number word x = IsNumeral 10 (without_leading_sign word) × FitsSigned w32 x × (signed_digits_value 10 word ≡ x)

abbrev pub Spelt : List ℕ → List ℤ → List ℕ → Type 0
Spelt bs [] rest = bs ≡ rest
Spelt bs (x ∷ xs) rest = (word next : List ℕ) × NextWord bs word next × is_number word x × Spelt next xs rest

abbrev pub NumbersRead : {A : Type 0} → List ℕ → Result (Vec ℤ A) BadText → Type 0
NumbersRead bs (Ok v) = (rest : List ℕ) × Spelt bs (vec_items v) rest × NoCharPasses is_not_whitespace rest
NumbersRead bs (Err (NotANumber k)) =
    (xs : List ℤ) × (length xs ≡ k) × ((rest word next : List ℕ) × Spelt bs xs rest × NextWord rest word next × ((x : ℤ) → is_number word x → ⊥))
NumbersRead bs (Err NoMemory) = Unit {0}
