-- Position limits (section 30.7.3.6.3). Assumes nothing.
--   percent_of class month     the percentage of a location's limit; none where positions are not limited
--   entity_of l b              the entity of a bid's account
--   stands_at l entity location hour b  whether a bid is the entity's, at the location and for the hour
--   position_of l entity location hour   what an entity stands with there
--   is_within percentage limit position
use Rattle.std.specs.Prelude.{ℕ, Bool, true, cond, ◌&&◌, ℤ, pos, ◌*ℤ◌, Some, None, filter, Option, int_le}
use Rattle.market.specs.declared.words.Class.{Class}
use Rattle.market.specs.declared.words.Class.TheVariants.{Node, Aggregate, LoadPoint, Hub, Intertie}
use Rattle.rules.specs.Words.{eq_z, sum_of}
use Rattle.rules.specs.Ledger.{BidEntry, Ledger, account_at}
use Rattle.rules.specs.Credit.{highest_point}

-- a percentage up to a last month, and what follows
abbrev pub to_month : (last percentage : ℕ) → ℤ → Option ℤ → Option ℤ
to_month last percentage month later = cond (int_le month (pos last)) (Some (pos percentage)) later

abbrev pub percent_of : Class → ℤ → Option ℤ
percent_of Node month = to_month 8 10 month (to_month 12 50 month None)
percent_of Aggregate month = to_month 8 10 month (to_month 12 50 month None)
percent_of LoadPoint month = None
percent_of Hub month = None
percent_of Intertie month = to_month 8 5 month (to_month 12 25 month (to_month 16 50 month None))

abbrev pub entity_of : Ledger → BidEntry → ℤ
entity_of l b = (account_at l b.account).entity

abbrev pub stands_at : Ledger → (entity location hour : ℤ) → BidEntry → Bool
stands_at l entity location hour b = eq_z (entity_of l b) entity && (eq_z b.location location && eq_z b.hour hour)

-- highest points of all its standing bids there, both sides added
abbrev pub position_of : Ledger → (entity location hour : ℤ) → ℤ
position_of l entity location hour =
    sum_of (λ b. highest_point b.curve) (filter (stands_at l entity location hour) l.bids.entries)

-- nothing is divided: position × 100 is at most percentage × limit
abbrev pub is_within : Option ℤ → (limit position : ℤ) → Bool
is_within None limit position = true
is_within (Some percentage) limit position = int_le (position *ℤ pos 100) (percentage *ℤ limit)
