-- Which hours and months make a day. Assumes nothing.
--   DayHours h      23, 24 or 25
--   DayMonth m      0 to 600
--   DayChecked h m r   r is the day of both, or refusal 1 of the book at the first bad one: hours 1, month 2
use Rattle.std.specs.Prelude.{◌≡◌, ◌⊎◌, ℤ, pos, ◌≤ℤ◌, Ok, Err, Result}
use Rattle.market.specs.declared.day.Day.{Day}
use Rattle.market.specs.declared.fault.Fault.{Fault}
use Rattle.market.specs.declared.fault.Fault.TheVariants.{BadArgument}
use Rattle.market.specs.declared.words.Layer.TheVariants.{Book}

abbrev pub DayHours : ℤ → Type 0
DayHours h = (pos 23 ≤ℤ h) × (h ≤ℤ pos 25)

abbrev pub DayMonth : ℤ → Type 0
DayMonth m = (pos 0 ≤ℤ m) × (m ≤ℤ pos 600)

abbrev pub DayChecked : ℤ → ℤ → Result Day Fault → Type 0
DayChecked h m (Ok d) = DayHours h × DayMonth m × (d.hours ≡ h) × (d.month ≡ m)
DayChecked h m (Err f) =
    ((DayHours h → ⊥) × (f ≡ BadArgument Book (pos 1)))
    ⊎ (DayHours h × (DayMonth m → ⊥) × (f ≡ BadArgument Book (pos 2)))
