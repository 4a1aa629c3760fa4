-- What a list of a layout holds, and where a list that does not is refused. Assumes nothing.
--   num xs k                        the number at index k, counted from 0
--   Bounded low high z              z lies from low to high
--   cells xs                        rows × columns, by the two sizes in front
--   second_from y xs                the index at which the second block begins
--   whole_length y xs               how long the sizes say that the list is
--   Fits y xs k                     the number at index k is within the bounds of its place
--   out_of low high z               the test whether z is below low or above high
--   Passed y xs s                   a whole list, of these sizes
--   SizesRefused y xs p, Refused y xs p  p is the place at which the sizes, or the list, are refused
use Rattle.std.specs.Prelude.{◌≡◌, ℕ, ◌+◌, ◌*◌, ◌<◌, ◌≤◌, Bool, cond, not, ◌&&◌, ◌⊎◌, List, length, ℤ, pos, ◌≤ℤ◌, Ok, Err, Result, ◌==◌, ◌≢◌, int_le, nat_lt, slice_index_or, unsigned_abs}
use Rattle.market.specs.declared.fault.Fault.{Fault}
use Rattle.market.specs.declared.fault.Fault.TheVariants.{BadArgument}
use Rattle.lists.specs.declared.layout.Layout.{Layout}
use Rattle.lists.specs.declared.layout.Sizes.{Sizes}

abbrev pub num : List ℤ → ℕ → ℤ
num xs k = slice_index_or xs k (pos 0)

abbrev pub Bounded : ℤ → ℤ → ℤ → Type 0
Bounded low high z = (low ≤ℤ z) × (z ≤ℤ high)

abbrev pub cells : List ℤ → ℕ
cells xs = unsigned_abs (num xs 0) * unsigned_abs (num xs 1)

abbrev pub second_from : Layout → List ℤ → ℕ
second_from y xs = 2 + cells xs * y.first.per_cell

abbrev pub whole_length : Layout → List ℤ → ℕ
whole_length y xs = second_from y xs + cells xs * y.second.per_cell

-- the first size counts rows, the second columns; then the first block, then the second
abbrev pub Fits : Layout → List ℤ → ℕ → Type 0
Fits y xs k =
    Bounded (cond (nat_lt k 2) (pos 0) (cond (nat_lt k (second_from y xs)) y.first.low y.second.low))
    (cond (k == 0) (pos y.rows) (cond (k == 1) (pos y.columns) (cond (nat_lt k (second_from y xs)) y.first.high y.second.high)))
    (num xs k)

abbrev pub out_of : ℤ → ℤ → ℤ → Bool
out_of low high z = not (int_le low z && int_le z high)

pub record Passed (y : Layout) (xs : List ℤ) (s : Sizes) : Type 0 where
  pub two : 2 ≤ length xs
  pub rows : pos s.rows ≡ num xs 0
  pub columns : pos s.columns ≡ num xs 1
  pub whole : length xs ≡ whole_length y xs
  pub each : (k : ℕ) → k < length xs → Fits y xs k

-- both sizes are there and within their bounds
pub record Sized (y : Layout) (xs : List ℤ) : Type 0 where
  pub two : 2 ≤ length xs
  pub rows_fit : Fits y xs 0
  pub columns_fit : Fits y xs 1

-- the length if below two, else the index of the first size out of bounds
abbrev pub SizesRefused : Layout → List ℤ → ℕ → Type 0
SizesRefused y xs p =
    ((length xs < 2) × (p ≡ length xs))
    ⊎ ((2 ≤ length xs) × (Fits y xs 0 → ⊥) × (p ≡ 0))
    ⊎ ((2 ≤ length xs) × Fits y xs 0 × (Fits y xs 1 → ⊥) × (p ≡ 1))

-- as of the sizes; the length if the sizes say another; else the index of the first number out of bounds
abbrev pub Refused : Layout → List ℤ → ℕ → Type 0
Refused y xs p =
    SizesRefused y xs p
    ⊎ (Sized y xs × (length xs ≢ whole_length y xs) × (p ≡ length xs))
    ⊎ (Sized y xs × (length xs ≡ whole_length y xs) × (p < length xs) × (Fits y xs p → ⊥) × ((k : ℕ) → k < p → Fits y xs k))

-- the sizes that stand in front
abbrev pub SizesRead : Layout → List ℤ → Sizes → Type 0
SizesRead y xs s = Sized y xs × (pos s.rows ≡ num xs 0) × (pos s.columns ≡ num xs 1)

-- refusal 1 of the layout's layer, at that place
abbrev pub Checked : Layout → List ℤ → Result Sizes Fault → Type 0
Checked y xs (Ok s) = Passed y xs s
Checked y xs (Err f) = (p : ℕ) × Refused y xs p × (f ≡ BadArgument y.layer (pos p))
