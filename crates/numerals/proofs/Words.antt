-- One word more: what is left of the text, and whether the word is a number. Assumes nothing.
use Rattle.std.proofs.Common.{◌≡◌, ℕ, ◌<◌, false, List, [], ◌∷◌, ◌++◌, length, ℤ, Ok, Err, Result, is_ok, FitsSigned, w32, sym, refl, subst}
use Rattle.std.specs.Char.{is_whitespace, is_not_whitespace}
use Rattle.std.specs.Str.{NoCharPasses, EmptyOrStartsWithPassing}
use Rattle.std.specs.Str.Parse.{ParsesSigned}
use Rattle.numerals.specs.Numbers.{NextWord, is_number, Spelt}

-- what an item of `split_whitespace` says
pub next_word : (bs word rest : List ℕ) → (gap : List ℕ) × (bs ≡ gap ++ (word ++ rest)) × (0 < length word) × NoCharPasses is_not_whitespace gap × NoCharPasses is_whitespace word × ((more : List ℕ) × EmptyOrStartsWithPassing is_whitespace rest more)
    → NextWord bs word rest
next_word bs word rest (gap, cut, some, blank, solid, parted) =
    record { gap = gap; cut = cut; some = some; gap_white = blank; word_dark = solid; parted = parted }

pub spelt_more : (bs : List ℕ) (xs : List ℤ) (rest word next : List ℕ) (x : ℤ) → Spelt bs xs rest → NextWord rest word next → is_number word x → Spelt bs (xs ++ x ∷ []) next
spelt_more bs [] rest word next x e first number = (word, next, subst (λ (l : List ℕ). NextWord l word next) (sym e) first, number, refl)
spelt_more bs (y ∷ ys) rest word next x (w, n, f, r, s) first number = (w, n, f, r, spelt_more n ys rest word next x s first number)

module _ {E : Type 0} (word : List ℕ) where
  pub is_number-from_parse : (x : ℤ) (parsed : Result ℤ E) → ParsesSigned w32 10 word parsed → parsed ≡ Ok x → FitsSigned w32 x → is_number word x
  is_number-from_parse x parsed p e f =
      let read = subst (ParsesSigned w32 10 word) e p in
      (read.0.0, f, sym read.1)

  pub not_number-from_parse : (parsed : Result ℤ E) → ParsesSigned w32 10 word parsed → is_ok parsed ≡ false → (x : ℤ) → is_number word x → ⊥
  not_number-from_parse (Ok y) p e x n = cc
  not_number-from_parse (Err err) p e x n = p (n.0, subst (FitsSigned w32) (sym n.2) n.1)
