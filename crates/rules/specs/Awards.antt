-- Awards, exact amounts and cents. Assumes nothing.
--   is_met side day_ahead s       whether a day-ahead price meets a segment
--   last_end curve                 the end of its last segment, where it has one
--   award_of side day_ahead curve  the end of the last segment that is met, where one is
--   award_by prices b             what one day-ahead price a location award a bid
--   is_award s, is_due s, is_paid s  whether a stage has an award; is priced and unpaid; is paid
--   award_in s, amount_in s       the quantity and the exact amount in a stage, 0 before it has one
--   awards_at l hour              the bids of an hour that have an award
--   day_ahead_prices s            the prices of a cleared hour
--   day_ahead_at l location hour  the day-ahead price there
--   average_at l dispatch hasp location hour  what the source that serves a location means there
--   by_side side z                demand gets the negative
--   exact_amount side quantity day_ahead average
--   cents_of amount               in cents, to the nearest, halves away from zero
use Rattle.std.specs.Prelude.{Bool, true, false, cond, ◌&&◌, List, [], ◌∷◌, ℤ, pos, ◌-ℤ◌, ◌*ℤ◌, neg_ℤ, Some, None, filter, Option, Result, int_le}
use Rattle.market.specs.declared.words.Side.{Side}
use Rattle.market.specs.declared.words.Side.TheVariants.{Supply, Demand}
use Rattle.market.specs.declared.words.Class.{Class}
use Rattle.market.specs.declared.words.Class.TheVariants.{Node, Aggregate, LoadPoint, Hub, Intertie}
use Rattle.market.specs.declared.segment.Segment.{Segment}
use Rattle.market.specs.declared.fault.SourceFault.{SourceFault}
use Rattle.rules.specs.declared.stages.BidStage.{BidStage}
use Rattle.rules.specs.declared.stages.BidStage.TheVariants.{Booked, Awarded, Priced, Paid}
use Rattle.rules.specs.Words.{eq_z, rounded, at_place}
use Rattle.rules.specs.Ledger.{BidEntry, HourStage, uncleared, cleared, cleared_and_priced, Ledger, location_at, hour_at}
use Rattle.rules.specs.Calls.{Averages}

-- supply is met by a day-ahead price at or above its own, demand by one at or below it
abbrev pub is_met : Side → ℤ → Segment → Bool
is_met Supply day_ahead s = int_le s.price day_ahead
is_met Demand day_ahead s = int_le day_ahead s.price

abbrev pub last_end : List Segment → Option ℤ
last_end [] = None
last_end (s ∷ []) = Some s.end
last_end (s ∷ t ∷ rest) = last_end (t ∷ rest)

abbrev pub award_of : Side → ℤ → List Segment → Option ℤ
award_of side day_ahead curve = last_end (filter (is_met side day_ahead) curve)

-- a bid's location is known and has its price, so that the 0 is never read
abbrev pub award_by : List ℤ → BidEntry → Option ℤ
award_by prices b = award_of b.side (at_place (pos 0) prices b.location) b.curve

abbrev pub is_award : BidStage → Bool
is_award Booked = false
is_award (Awarded quantity) = true
is_award (Priced quantity amount) = true
is_award (Paid quantity amount) = true

abbrev pub is_due : BidStage → Bool
is_due Booked = false
is_due (Awarded quantity) = false
is_due (Priced quantity amount) = true
is_due (Paid quantity amount) = false

abbrev pub is_paid : BidStage → Bool
is_paid Booked = false
is_paid (Awarded quantity) = false
is_paid (Priced quantity amount) = false
is_paid (Paid quantity amount) = true

abbrev pub award_in : BidStage → ℤ
award_in Booked = pos 0
award_in (Awarded quantity) = quantity
award_in (Priced quantity amount) = quantity
award_in (Paid quantity amount) = quantity

abbrev pub amount_in : BidStage → ℤ
amount_in Booked = pos 0
amount_in (Awarded quantity) = pos 0
amount_in (Priced quantity amount) = amount
amount_in (Paid quantity amount) = amount

abbrev pub awards_at : Ledger → ℤ → List BidEntry
awards_at l hour = filter (λ b. eq_z b.hour hour && is_award b.stage) l.bids.entries

abbrev pub day_ahead_prices : HourStage → List ℤ
day_ahead_prices uncleared = []
day_ahead_prices (cleared prices) = prices
day_ahead_prices (cleared_and_priced prices) = prices

-- read once the hour is cleared, with a price for each location
abbrev pub day_ahead_at : Ledger → (location hour : ℤ) → ℤ
day_ahead_at l location hour = at_place (pos 0) (day_ahead_prices (hour_at l hour)) location

abbrev pub is_intertie : Class → Bool
is_intertie Node = false
is_intertie Aggregate = false
is_intertie LoadPoint = false
is_intertie Hub = false
is_intertie Intertie = true

-- the HASP source serves interties, the dispatch source the rest
abbrev pub average_at : Ledger → Averages → Averages → (location hour : ℤ) → Result ℤ SourceFault
average_at l dispatch hasp location hour = cond (is_intertie (location_at l location).class) hasp dispatch location hour

abbrev pub by_side : Side → ℤ → ℤ
by_side Supply z = z
by_side Demand z = neg_ℤ z

-- of a quantity, by the day-ahead price in cents and the average in twelfths
abbrev pub exact_amount : Side → (quantity day_ahead average : ℤ) → ℤ
exact_amount side quantity day_ahead average = by_side side (quantity *ℤ ((pos 12 *ℤ day_ahead) -ℤ average))

abbrev pub cents_of : ℤ → ℤ
cents_of amount = rounded 120 amount
