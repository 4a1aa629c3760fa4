-- What each call asks, answers and enters. Assumes nothing.
--   is_hour l hour, is_limit limit, is_list n low high xs, are_prices l prices, are_crrs crrs, adjust_bounds l x  bounds
--   questions m l c    what is asked before a call, in order
--   clear_bids hour prices bs, price_bid l hour dispatch hasp b, pay_bid account b  what clear, price and pay do to bids
--   due_to l account   its priced and unpaid awards
--   result_of l c       what a call answers that goes through
--   enter m l c        what it enters
--   refusal_of m l c   the first no
--   answer_to m l c    the first no, else the result
--   move_by m l c      the ledger after the call: a refused one changes nothing
use Rattle.std.specs.Prelude.{Bool, cond, not, ◌&&◌, ◌||◌, List, [], ◌∷◌, ◌++◌, map, ℤ, pos, ◌*ℤ◌, neg_ℤ, is_some, Ok, Err, filter, Option, Result}
use Rattle.market.specs.Letters.{side_named, class_named, period_named}
use Rattle.market.specs.declared.segment.Segment.{Segment}
use Rattle.market.specs.declared.words.Side.{Side}
use Rattle.market.specs.declared.words.Period.{Period}
use Rattle.market.specs.declared.fault.Fault.{Fault}
use Rattle.market.specs.declared.fault.PolicyFault.{PolicyFault}
use Rattle.market.specs.declared.fault.SourceFault.{SourceFault}
use Rattle.rules.specs.declared.entries.HoldEntry.{HoldEntry}
use Rattle.rules.specs.declared.entries.ClawbackEntry.{ClawbackEntry}
use Rattle.rules.specs.declared.stages.BidStage.{BidStage}
use Rattle.rules.specs.declared.stages.BidStage.TheVariants.{Booked, Awarded, Priced, Paid}
use Rattle.rules.specs.declared.stages.DayStage.TheVariants.{Closed}
use Rattle.rules.specs.declared.crr.Crr.{Crr}
use Rattle.rules.specs.Adjustment.{adjustment_of}
use Rattle.rules.specs.Awards.{award_by, is_due, amount_in, day_ahead_prices, day_ahead_at, average_at, exact_amount, cents_of}
use Rattle.rules.specs.Calls.{Prices, Averages, AdjustTerms, Call, open_account, add_location, set_limit, take_hold, release_hold, place_bid, withdraw_bid, close_bidding, clear_hour, price_hour, pay_account, adjust_account, Answer, done, numbered, counted, paid_out, adjusted, refused}
use Rattle.rules.specs.Credit.{rate_of, bids_of}
use Rattle.rules.specs.Ledger.{BidEntry, cleared, cleared_and_priced, Ledger, with_entry, with_entries, bid_with, with_stage, with_hours, with_accounts, with_locations, with_holds, with_bids, with_clawbacks, account_at, hour_at, hold_numbered, holds_without, bids_without}
use Rattle.rules.specs.Questions.{first_no, within_bounds, asked_later, account_known, location_known, crrs_known, hold_stands, bid_stands, still_open, closed_and_uncleared, cleared_and_unpriced, all_hours_cleared, place_free, has_price, charge_fits, limit_fits, curve_kept, within_held, no_such_bid, path_rated, within_position, no_holds, each_has_average, not_yet_adjusted}
use Rattle.rules.specs.Words.{eq_z, inside, count_of, all_of, sum_of, replaced, if_some}

-- Bounds of arguments

abbrev pub is_hour : Ledger → ℤ → Bool
is_hour l hour = inside (pos 1) l.day.hours hour

abbrev pub is_limit : ℤ → Bool
is_limit limit = inside (pos 0) (pos 10000000000) limit

-- a list of n numbers from low to high
abbrev pub is_list : (n low high : ℤ) → List ℤ → Bool
is_list n low high xs = eq_z (count_of xs) n && all_of (inside low high) xs

abbrev pub are_prices : Ledger → List ℤ → Bool
are_prices l prices = is_list (count_of l.locations.entries) (neg_ℤ (pos 1000000)) (pos 1000000) prices

abbrev pub are_crrs : List Crr → Bool
are_crrs crrs =
    inside (pos 0) (pos 32) (count_of crrs) && all_of (λ c. inside (pos 1) (pos 100000) c.quantity) crrs

-- factors are one a location, shadow prices five an hour, marks one an hour
abbrev pub adjust_bounds : Ledger → AdjustTerms → List Bool
adjust_bounds l x =
    asked_later
    ∷ inside (pos 1) (pos 16) x.constraint
    ∷ is_some (period_named x.period)
    ∷ inside (pos 1) (pos 1000000) x.flow
    ∷ is_list (count_of l.locations.entries) (neg_ℤ (pos 10000)) (pos 10000) x.factors
    ∷ is_list (pos 5 *ℤ l.day.hours) (pos 0) (pos 200000) x.shadows
    ∷ is_list l.day.hours (pos 0) (pos 1) x.marks
    ∷ are_crrs x.crrs
    ∷ []

-- What is asked before each call, in this order. What a letter or number does not name is not asked about further

abbrev pub questions : Prices → Ledger → Call → List (Option Fault)
questions m l (open_account entity limit) =
    within_bounds (inside (pos 1) (pos 8) entity ∷ is_limit limit ∷ [])
    ∷ still_open l ∷ place_free (pos 16) l.accounts ∷ []
questions m l (add_location class limit) =
    within_bounds (is_some (class_named class) ∷ inside (pos 0) (pos 100000) limit ∷ [])
    ∷ still_open l ∷ place_free (pos 64) l.locations ∷ []
questions m l (set_limit account limit) =
    within_bounds (asked_later ∷ is_limit limit ∷ [])
    ∷ account_known l account ∷ still_open l ∷ limit_fits l account limit ∷ []
questions m l (take_hold account location side quantity) =
    within_bounds (asked_later ∷ asked_later ∷ is_some (side_named side) ∷ inside (pos 10) (pos 10000) quantity ∷ [])
    ∷ account_known l account ∷ location_known l location
    ∷ still_open l ∷ place_free (pos 32) l.holds
    ∷ if_some (side_named side) [] (λ s.
    has_price location (m location s) ∷ charge_fits l account quantity (m location s) ∷ [])
questions m l (release_hold hold) = hold_stands l hold ∷ []
questions m l (place_bid hold hour curve) =
    within_bounds (asked_later ∷ is_hour l hour ∷ asked_later ∷ [])
    ∷ hold_stands l hold ∷ place_free (pos 256) l.bids
    ∷ if_some (hold_numbered l hold) [] (λ h.
    curve_kept h.side curve ∷ within_held h curve ∷ no_such_bid l h hour
    ∷ path_rated l h.location ∷ within_position l h hour curve ∷ [])
questions m l (withdraw_bid bid) = bid_stands l bid ∷ still_open l ∷ []
questions m l close_bidding = still_open l ∷ no_holds l ∷ []
questions m l (clear_hour hour prices) =
    within_bounds (is_hour l hour ∷ are_prices l prices ∷ [])
    ∷ closed_and_uncleared l hour ∷ []
questions m l (price_hour hour dispatch hasp) =
    within_bounds (is_hour l hour ∷ [])
    ∷ cleared_and_unpriced l hour ∷ each_has_average l hour dispatch hasp ∷ []
questions m l (pay_account account) = account_known l account ∷ []
questions m l (adjust_account x) =
    within_bounds (adjust_bounds l x)
    ∷ account_known l x.account ∷ crrs_known l x.crrs ∷ all_hours_cleared l
    ∷ if_some (period_named x.period) [] (λ period. not_yet_adjusted l x period ∷ [])

-- What clear, price and pay do to the bids

abbrev pub is_at : ℤ → BidEntry → Bool
is_at hour b = eq_z b.hour hour

abbrev pub awarded_stage : Option ℤ → BidStage → BidStage
awarded_stage award stage = if_some award stage (λ quantity. Awarded quantity)

abbrev pub clear_bid : ℤ → List ℤ → BidEntry → BidEntry
clear_bid hour prices b = cond (is_at hour b) (bid_with b (awarded_stage (award_by prices b) b.stage)) b

-- a bid of the hour without an award ends
abbrev pub stays_after : ℤ → List ℤ → BidEntry → Bool
stays_after hour prices b = not (is_at hour b) || is_some (award_by prices b)

abbrev pub clear_bids : ℤ → List ℤ → List BidEntry → List BidEntry
clear_bids hour prices bs = map (clear_bid hour prices) (filter (stays_after hour prices) bs)

abbrev pub priced_stage : (ℤ → ℤ) → BidStage → BidStage
priced_stage amount_of Booked = Booked
priced_stage amount_of (Awarded quantity) = Priced quantity (amount_of quantity)
priced_stage amount_of (Priced quantity amount) = Priced quantity amount
priced_stage amount_of (Paid quantity amount) = Paid quantity amount

-- question 14 leaves no award of the hour without an average
abbrev pub averaged_stage : Side → ℤ → Result ℤ SourceFault → BidStage → BidStage
averaged_stage side day_ahead (Ok average) stage =
    priced_stage (λ quantity. exact_amount side quantity day_ahead average) stage
averaged_stage side day_ahead (Err fault) stage = stage

abbrev pub price_bid : Ledger → ℤ → Averages → Averages → BidEntry → BidEntry
price_bid l hour dispatch hasp b = cond (is_at hour b)
    (bid_with b (averaged_stage b.side (day_ahead_at l b.location hour)
    (average_at l dispatch hasp b.location hour) b.stage)) b

abbrev pub paid_stage : BidStage → BidStage
paid_stage Booked = Booked
paid_stage (Awarded quantity) = Awarded quantity
paid_stage (Priced quantity amount) = Paid quantity amount
paid_stage (Paid quantity amount) = Paid quantity amount

abbrev pub pay_bid : ℤ → BidEntry → BidEntry
pay_bid account b = cond (eq_z b.account account) (bid_with b (paid_stage b.stage)) b

abbrev pub due_to : Ledger → ℤ → List BidEntry
due_to l account = filter (λ b. is_due b.stage) (bids_of l account)

abbrev pub bid_cents : BidEntry → ℤ
bid_cents b = cents_of (amount_in b.stage)

-- What a call that goes through answers. Question 1 leaves no adjustment without a period

abbrev pub result_of : Ledger → Call → Answer
result_of l (open_account entity limit) = numbered l.accounts.next
result_of l (add_location class limit) = numbered l.locations.next
result_of l (set_limit account limit) = done
result_of l (take_hold account location side quantity) = numbered l.holds.next
result_of l (release_hold hold) = done
result_of l (place_bid hold hour curve) = numbered l.bids.next
result_of l (withdraw_bid bid) = done
result_of l close_bidding = done
result_of l (clear_hour hour prices) =
    counted (count_of (filter (λ b. is_at hour b && is_some (award_by prices b)) l.bids.entries))
result_of l (price_hour hour dispatch hasp) = done
result_of l (pay_account account) = paid_out (count_of (due_to l account)) (sum_of bid_cents (due_to l account))
result_of l (adjust_account x) = adjusted (if_some (period_named x.period) (pos 0) (adjustment_of l x))

-- What a call that goes through enters

-- the hold is charged by the rate of the policy's price, which question 6 has found
abbrev pub with_hold : Ledger → (account location : ℤ) → Side → (quantity : ℤ) → Result ℤ PolicyFault → Ledger
with_hold l account location side quantity (Err fault) = l
with_hold l account location side quantity (Ok price) = with_holds l (with_entry l.holds (record {
  number = l.holds.next;
  account = account;
  location = location;
  side = side;
  quantity = quantity;
  rate = rate_of price;
}))

abbrev pub new_bid : Ledger → HoldEntry → ℤ → List Segment → BidEntry
new_bid l h hour curve = record {
  number = l.bids.next;
  account = h.account;
  location = h.location;
  side = h.side;
  rate = h.rate;
  hour = hour;
  curve = curve;
  stage = Booked;
}

abbrev pub new_clawback : Ledger → AdjustTerms → Period → ClawbackEntry
new_clawback l x period =
    record { account = x.account; constraint = x.constraint; period = period; cents = adjustment_of l x period }

abbrev pub enter : Prices → Ledger → Call → Ledger
enter m l (open_account entity limit) =
    with_accounts l (with_entry l.accounts (record { entity = entity; limit = limit }))
enter m l (add_location class limit) = if_some (class_named class) l (λ c.
    with_locations l (with_entry l.locations (record { class = c; limit = limit })))
enter m l (set_limit account limit) = with_accounts l (with_entries l.accounts
    (replaced l.accounts.entries account (record { entity = (account_at l account).entity; limit = limit })))
enter m l (take_hold account location side quantity) = if_some (side_named side) l (λ s.
    with_hold l account location s quantity (m location s))
enter m l (release_hold hold) = with_holds l (holds_without l hold)
enter m l (place_bid hold hour curve) = if_some (hold_numbered l hold) l (λ h.
    with_bids (with_holds l (holds_without l hold)) (with_entry l.bids (new_bid l h hour curve)))
enter m l (withdraw_bid bid) = with_bids l (bids_without l bid)
enter m l close_bidding = with_stage l Closed
enter m l (clear_hour hour prices) =
    with_hours (with_bids l (with_entries l.bids (clear_bids hour prices l.bids.entries)))
    (replaced l.hours hour (cleared prices))
enter m l (price_hour hour dispatch hasp) =
    with_hours (with_bids l (with_entries l.bids (map (price_bid l hour dispatch hasp) l.bids.entries)))
    (replaced l.hours hour (cleared_and_priced (day_ahead_prices (hour_at l hour))))
enter m l (pay_account account) = with_bids l (with_entries l.bids (map (pay_bid account) l.bids.entries))
enter m l (adjust_account x) = if_some (period_named x.period) l (λ period.
    with_clawbacks l (l.clawbacks ++ (new_clawback l x period ∷ [])))

-- The first no, else the result; a refused call changes nothing

abbrev pub refusal_of : Prices → Ledger → Call → Option Fault
refusal_of m l c = first_no (questions m l c)

abbrev pub answer_to : Prices → Ledger → Call → Answer
answer_to m l c = if_some (refusal_of m l c) (result_of l c) refused

abbrev pub move_by : Prices → Ledger → Call → Ledger
move_by m l c = if_some (refusal_of m l c) (enter m l c) (λ fault. l)
