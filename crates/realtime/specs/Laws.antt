-- What a feed over a list is, said by the list alone. Assumes nothing.
--   Whole per xs            the list passes the check of a feed
--   Opened per xs m n       m and n are the sizes of a list that passes, and 0 of one that does not
--   Among size n            n is one of 1 to `size`
--   place xs l h            the cell of a location and hour, by the sizes in front
--   mark xs l h             the mark of an hour of a location
--   interval per xs l h i   the price of its interval i, from 0, at 2 + cells + place × per + i
--   ReadsAs per xs meaning  a list that passes is read as its numbers stand; of any other all is outside
use Rattle.std.specs.Prelude.{◌≡◌, ℕ, ◌+◌, ◌*◌, ◌/◌, List, ℤ, pos, ◌*ℤ◌, ◌≤ℤ◌, Ok, Result, unsigned_abs}
use Rattle.market.specs.declared.fault.Cause.TheVariants.{Outside, Missing}
use Rattle.market.specs.declared.fault.SourceFault.{SourceFault}
use Rattle.lists.specs.declared.layout.Sizes.{Sizes}
use Rattle.lists.specs.Lists.{num, cells, Passed}
use Rattle.lists.specs.Cells.{cell}
use Rattle.realtime.specs.Feeds.{feed_layout, summed, faulty}

abbrev pub Whole : ℕ → List ℤ → Type 0
Whole per xs = (s : Sizes) × Passed (feed_layout per) xs s

pub record Opened (per : ℕ) (xs : List ℤ) (m n : ℕ) : Type 0 where
  pub of_whole : Whole per xs → (pos m ≡ num xs 0) × (pos n ≡ num xs 1)
  pub of_other : (Whole per xs → ⊥) → (m ≡ 0) × (n ≡ 0)

abbrev pub Among : ℤ → ℤ → Type 0
Among size n = (pos 1 ≤ℤ n) × (n ≤ℤ size)

abbrev pub place : List ℤ → ℤ → ℤ → ℕ
place xs l h = cell (unsigned_abs (num xs 1)) l h

abbrev pub mark : List ℤ → ℤ → ℤ → ℤ
mark xs l h = num xs (2 + place xs l h)

abbrev pub interval : ℕ → List ℤ → ℤ → ℤ → ℕ → ℤ
interval per xs l h i = num xs (2 + cells xs + place xs l h * per + i)

pub record ReadsAs (per : ℕ) (xs : List ℤ) (meaning : ℤ → ℤ → Result ℤ SourceFault) : Type 0 where
  pub location_outside : (l h : ℤ) → Whole per xs → (Among (num xs 0) l → ⊥) → meaning l h ≡ faulty Outside l
  pub hour_outside : (l h : ℤ) → Whole per xs → (Among (num xs 1) h → ⊥) → meaning l h ≡ faulty Outside l
  pub unpublished : (l h : ℤ) → Whole per xs → Among (num xs 0) l → Among (num xs 1) h → mark xs l h ≡ pos 0 → meaning l h ≡ faulty Missing l
  pub published : (l h : ℤ) → Whole per xs → Among (num xs 0) l → Among (num xs 1) h → mark xs l h ≡ pos 1 → meaning l h ≡ Ok (pos (12 / per) *ℤ summed (interval per xs l h) per)
  pub not_whole : (l h : ℤ) → (Whole per xs → ⊥) → meaning l h ≡ faulty Outside l
