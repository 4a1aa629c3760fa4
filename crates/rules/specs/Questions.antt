-- The fifteen questions: each is answered by nothing, where the answer is yes, or else by the fault. Assumes nothing.
-- Each has a value everywhere, though a later one is meant only where the earlier ones of a call were answered yes.
--   ask fault so            one question
--   ask_each fault_at n tests one question of each in a row: the first that fails, with its place, counted from n
--   ask_none fault_of xs    whether there is none: the first that there is tells the fault
--   first_no questions      the first no
--   1 within_bounds  2 account_known, location_known, crrs_known   3 hold_stands, bid_stands
--   4 still_open, closed_and_uncleared, cleared_and_unpriced, all_hours_cleared  5 place_free   6 has_price
--   7 charge_fits, limit_fits  8 curve_kept   9 within_held   10 no_such_bid   11 path_rated   12 within_position
--   13 no_holds  14 each_has_average   15 not_yet_adjusted
use Rattle.std.specs.Prelude.{Bool, true, false, cond, not, ◌&&◌, ◌||◌, List, [], ◌∷◌, map, ℤ, pos, ◌+ℤ◌, neg_ℤ, is_some, Some, None, Ok, Err, filter, Option, Result, int_le, int_lt}
use Rattle.market.specs.declared.words.Side.{Side}
use Rattle.market.specs.declared.words.Side.TheVariants.{Supply, Demand}
use Rattle.market.specs.declared.words.Period.{Period}
use Rattle.market.specs.declared.words.Layer.TheVariants.{Book}
use Rattle.market.specs.declared.segment.Segment.{Segment}
use Rattle.market.specs.declared.fault.PolicyFault.{PolicyFault}
use Rattle.market.specs.declared.fault.SourceFault.{SourceFault}
use Rattle.market.specs.declared.fault.Fault.{Fault}
use Rattle.market.specs.declared.fault.Fault.TheVariants.{BadArgument, Unknown, NotStanding, WrongStage, NoPlaceFree, NoPrice, OverCredit, BadCurve, OverHeld, SecondBid, PathUnrated, OverPosition, HoldStands, NoAverage, AlreadyAdjusted}
use Rattle.rules.specs.declared.entries.HoldEntry.{HoldEntry}
use Rattle.rules.specs.declared.entries.ClawbackEntry.{ClawbackEntry}
use Rattle.rules.specs.declared.stages.DayStage.{DayStage}
use Rattle.rules.specs.declared.stages.DayStage.TheVariants.{Open, Closed}
use Rattle.rules.specs.declared.crr.Crr.{Crr}
use Rattle.rules.specs.Words.{eq_z, inside, count_of, first}
use Rattle.rules.specs.Ledger.{BidEntry, HourStage, uncleared, cleared, cleared_and_priced, Table, Ledger, account_at, location_at, hour_at, hold_numbered, bid_numbered}
use Rattle.rules.specs.Calls.{Averages, AdjustTerms}
use Rattle.rules.specs.Credit.{rate_of, charge_of, charges_of, credit_of, available_credit, highest_point}
use Rattle.rules.specs.Awards.{is_intertie, awards_at, average_at}
use Rattle.rules.specs.Position.{percent_of, position_of, is_within}
use Rattle.rules.specs.Adjustment.{mark_of}

abbrev pub ask : Fault → Bool → Option Fault
ask fault so = cond so None (Some fault)

abbrev pub first_no : List (Option Fault) → Option Fault
first_no [] = None
first_no (None ∷ rest) = first_no rest
first_no (Some fault ∷ rest) = Some fault

abbrev pub ask_each : (ℤ → Fault) → ℤ → List Bool → Option Fault
ask_each fault_at n [] = None
ask_each fault_at n (so ∷ rest) = first_no (ask (fault_at n) so ∷ ask_each fault_at (n +ℤ pos 1) rest ∷ [])

abbrev pub ask_none : {X : Type 0} → (X → Fault) → List X → Option Fault
ask_none fault_of xs = first (map fault_of xs)

-- 1. Is each argument within its bounds? The place is its position. Those that later questions ask about pass here
abbrev pub within_bounds : List Bool → Option Fault
within_bounds arguments = ask_each (BadArgument Book) (pos 1) arguments

abbrev pub asked_later : Bool
asked_later = true

-- 2. Is each account and location known?
abbrev pub is_among : {X : Type 0} → Table X → ℤ → Bool
is_among t n = inside (pos 1) (count_of t.entries) n

abbrev pub account_known : Ledger → ℤ → Option Fault
account_known l account = ask (Unknown account) (is_among l.accounts account)

abbrev pub location_known : Ledger → ℤ → Option Fault
location_known l location = ask (Unknown location) (is_among l.locations location)

abbrev pub crrs_known : Ledger → List Crr → Option Fault
crrs_known l crrs = first_no (map (λ c. first_no (location_known l c.source ∷ location_known l c.sink ∷ [])) crrs)

-- 3. Does the hold or bid stand?
abbrev pub hold_stands : Ledger → ℤ → Option Fault
hold_stands l hold = ask (NotStanding hold) (is_some (hold_numbered l hold))

abbrev pub bid_stands : Ledger → ℤ → Option Fault
bid_stands l bid = ask (NotStanding bid) (is_some (bid_numbered l bid))

-- 4. Is the stage right?
abbrev pub is_open : DayStage → Bool
is_open Open = true
is_open Closed = false

abbrev pub is_cleared : HourStage → Bool
is_cleared uncleared = false
is_cleared (cleared prices) = true
is_cleared (cleared_and_priced prices) = true

abbrev pub is_priced : HourStage → Bool
is_priced uncleared = false
is_priced (cleared prices) = false
is_priced (cleared_and_priced prices) = true

abbrev pub still_open : Ledger → Option Fault
still_open l = ask (WrongStage (pos 0)) (is_open l.stage)

abbrev pub closed_and_uncleared : Ledger → ℤ → Option Fault
closed_and_uncleared l hour = ask (WrongStage hour) (not (is_open l.stage) && not (is_cleared (hour_at l hour)))

abbrev pub cleared_and_unpriced : Ledger → ℤ → Option Fault
cleared_and_unpriced l hour = ask (WrongStage hour) (is_cleared (hour_at l hour) && not (is_priced (hour_at l hour)))

-- the place is the first uncleared hour
abbrev pub all_hours_cleared : Ledger → Option Fault
all_hours_cleared l = ask_each WrongStage (pos 1) (map is_cleared l.hours)

-- 5. Is a place free, and the next number at most 1,000,000?
abbrev pub place_free : {X : Type 0} → ℤ → Table X → Option Fault
place_free places t = ask (NoPlaceFree places) (int_lt (count_of t.entries) places && int_le t.next (pos 1000000))

-- 6. Has the policy a price? Its fault is carried whole, beside the location
abbrev pub has_price : ℤ → Result ℤ PolicyFault → Option Fault
has_price location (Ok price) = None
has_price location (Err fault) = Some (NoPrice (record { asked = location; fault = fault }))

-- 7. Does the charge fit available credit, or the new limit the charges? Without a price, question 6 has said no
abbrev pub charge_fits : Ledger → (account quantity : ℤ) → Result ℤ PolicyFault → Option Fault
charge_fits l account quantity (Ok price) =
    ask (OverCredit account) (int_le (charge_of quantity (rate_of price)) (available_credit l account))
charge_fits l account quantity (Err fault) = None

abbrev pub limit_fits : Ledger → (account limit : ℤ) → Option Fault
limit_fits l account limit = ask (OverCredit account) (int_le (charges_of l account) (credit_of limit))

-- 8. Does the curve keep its rules and price bounds? Each segment is asked beside the one before it

-- at least 10 wide
abbrev pub wide_enough : Segment → Segment → Bool
wide_enough before s = int_le (before.end +ℤ pos 10) s.end

abbrev pub within_highest : Segment → Bool
within_highest s = int_le s.end (pos 10000)

abbrev pub priced_within : Segment → Bool
priced_within s = inside (neg_ℤ (pos 100000)) (pos 200000) s.price

-- supply prices never fall, demand prices never rise
abbrev pub in_order : Side → Segment → Segment → Bool
in_order Supply before s = int_le before.price s.price
in_order Demand before s = int_le s.price before.price

abbrev pub may_follow : Side → Segment → Segment → Bool
may_follow side before s = wide_enough before s && (within_highest s && (priced_within s && in_order side before s))

-- the first segment follows the quantity 0, at a price that every price may follow
abbrev pub curve_start : Side → Segment
curve_start Supply = record { end = pos 0; price = neg_ℤ (pos 100000) }
curve_start Demand = record { end = pos 0; price = pos 200000 }

abbrev pub each_follows : Side → Segment → List Segment → List Bool
each_follows side before [] = []
each_follows side before (s ∷ rest) = may_follow side before s ∷ each_follows side s rest

-- the place is the segment's, counted from 1; that of a wrong count is 0
abbrev pub curve_kept : Side → List Segment → Option Fault
curve_kept side curve =
    ask_each BadCurve (pos 0) (inside (pos 1) (pos 10) (count_of curve) ∷ each_follows side (curve_start side) curve)

-- 9. Is the highest point at most the held quantity?
abbrev pub within_held : HoldEntry → List Segment → Option Fault
within_held h curve = ask (OverHeld (highest_point curve)) (int_le (highest_point curve) h.quantity)

-- 10. Has the account no standing bid of that side, location and hour?
abbrev pub same_side : Side → Side → Bool
same_side Supply Supply = true
same_side Supply Demand = false
same_side Demand Supply = false
same_side Demand Demand = true

abbrev pub is_such_bid : HoldEntry → ℤ → BidEntry → Bool
is_such_bid h hour b =
    eq_z b.account h.account
    && (same_side b.side h.side && (eq_z b.location h.location && eq_z b.hour hour))

abbrev pub no_such_bid : Ledger → HoldEntry → ℤ → Option Fault
no_such_bid l h hour = ask_none (λ b. SecondBid b.number) (filter (is_such_bid h hour) l.bids.entries)

-- 11. Is an intertie's limit above zero?
abbrev pub path_rated : Ledger → ℤ → Option Fault
path_rated l location = ask (PathUnrated location)
    (not (is_intertie (location_at l location).class) || int_lt (pos 0) (location_at l location).limit)

-- 12. Is the entity within its position limit?
abbrev pub within_position : Ledger → HoldEntry → ℤ → List Segment → Option Fault
within_position l h hour curve =
    let entity = (account_at l h.account).entity in
    let there = location_at l h.location in
    let position = position_of l entity h.location hour +ℤ highest_point curve in
    ask (OverPosition h.location) (is_within (percent_of there.class l.day.month) there.limit position)

-- 13. Do no holds stand? The first is the lowest
abbrev pub no_holds : Ledger → Option Fault
no_holds l = ask_none (λ h. HoldStands h.number) l.holds.entries

-- 14. Has the source an average for each award of the hour? Bids stand by rising number, so the lowest is asked first
abbrev pub has_average : ℤ → Result ℤ SourceFault → Option Fault
has_average location (Ok average) = None
has_average location (Err fault) = Some (NoAverage (record { asked = location; fault = fault }))

abbrev pub each_has_average : Ledger → ℤ → Averages → Averages → Option Fault
each_has_average l hour dispatch hasp =
    first_no (map (λ b. has_average b.location (average_at l dispatch hasp b.location hour)) (awards_at l hour))

-- 15. Is this account, constraint and period not yet adjusted?
abbrev pub is_such_clawback : AdjustTerms → Period → ClawbackEntry → Bool
is_such_clawback x period c =
    eq_z c.account x.account
    && (eq_z c.constraint x.constraint && eq_z (mark_of c.period) (mark_of period))

abbrev pub not_yet_adjusted : Ledger → AdjustTerms → Period → Option Fault
not_yet_adjusted l x period =
    ask_none (λ c. AlreadyAdjusted c.constraint) (filter (is_such_clawback x period) l.clawbacks)
