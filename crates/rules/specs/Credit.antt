-- Charges and available credit. Assumes nothing.
--   rate_of price           the rate of a reference price: the price, or 0 where that is below zero
--   highest_point curve     where a curve ends, which starts from 0
--   charge_of quantity rate  what a quantity is charged
--   stage_charge s highest rate  what a bid is charged by its stage
--   hold_charge h, bid_charge b
--   holds_of l account, bids_of l account  those of an account
--   charges_of l account    what its standing holds and bids are charged
--   credit_of limit         a limit in cents as an amount
--   available_credit l account
use Rattle.std.specs.Prelude.{List, [], ◌∷◌, ℤ, pos, ◌+ℤ◌, ◌-ℤ◌, ◌*ℤ◌, neg_ℤ, filter}
use Rattle.std.specs.Int.{int_max}
use Rattle.market.specs.declared.segment.Segment.{Segment}
use Rattle.rules.specs.declared.entries.HoldEntry.{HoldEntry}
use Rattle.rules.specs.declared.stages.BidStage.{BidStage}
use Rattle.rules.specs.declared.stages.BidStage.TheVariants.{Booked, Awarded, Priced, Paid}
use Rattle.rules.specs.Words.{eq_z, sum_of}
use Rattle.rules.specs.Ledger.{BidEntry, Ledger, account_at}

abbrev pub rate_of : ℤ → ℤ
rate_of price = int_max price (pos 0)

abbrev pub end_from : ℤ → List Segment → ℤ
end_from start [] = start
end_from start (s ∷ rest) = end_from s.end rest

abbrev pub highest_point : List Segment → ℤ
highest_point curve = end_from (pos 0) curve

abbrev pub charge_of : (quantity rate : ℤ) → ℤ
charge_of quantity rate = quantity *ℤ rate

-- priced and unpaid, it is charged the negative of its exact amount; paid, nothing
abbrev pub stage_charge : BidStage → (highest rate : ℤ) → ℤ
stage_charge Booked highest rate = charge_of highest rate
stage_charge (Awarded quantity) highest rate = charge_of quantity rate
stage_charge (Priced quantity amount) highest rate = neg_ℤ amount
stage_charge (Paid quantity amount) highest rate = pos 0

abbrev pub hold_charge : HoldEntry → ℤ
hold_charge h = charge_of h.quantity h.rate

abbrev pub bid_charge : BidEntry → ℤ
bid_charge b = stage_charge b.stage (highest_point b.curve) b.rate

abbrev pub holds_of : Ledger → ℤ → List HoldEntry
holds_of l account = filter (λ h. eq_z h.account account) l.holds.entries

abbrev pub bids_of : Ledger → ℤ → List BidEntry
bids_of l account = filter (λ b. eq_z b.account account) l.bids.entries

abbrev pub charges_of : Ledger → ℤ → ℤ
charges_of l account = sum_of hold_charge (holds_of l account) +ℤ sum_of bid_charge (bids_of l account)

abbrev pub credit_of : ℤ → ℤ
credit_of limit = pos 120 *ℤ limit

abbrev pub available_credit : Ledger → ℤ → ℤ
available_credit l account = credit_of (account_at l account).limit -ℤ charges_of l account
