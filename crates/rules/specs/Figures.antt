-- The figures of the rules, from the definitions: whole runs and what they answer. Assumes nothing.
--   Figures   the collected check; the figure of the percentile rank stands with the rank pick, above this crate
use Rattle.std.specs.Prelude.{◌≡◌, ℕ, List, [], ◌∷◌, ◌++◌, map, replicate, ℤ, pos, ◌+ℤ◌, ◌*ℤ◌, neg_ℤ, Ok, Err}
use Rattle.std.specs.Int.Signed.{le_z_yes}
use Rattle.market.specs.Letters.{side_letter, class_letter, period_letter}
use Rattle.market.specs.declared.day.Day.{Day}
use Rattle.market.specs.declared.segment.Segment.{Segment}
use Rattle.market.specs.declared.words.Side.{Side}
use Rattle.market.specs.declared.words.Side.TheVariants.{Supply, Demand}
use Rattle.market.specs.declared.words.Class.{Class}
use Rattle.market.specs.declared.words.Class.TheVariants.{Node, Intertie}
use Rattle.market.specs.declared.words.Period.TheVariants.{Peak}
use Rattle.market.specs.declared.fault.Fault.TheVariants.{NotStanding, OverCredit, OverPosition}
use Rattle.rules.specs.declared.stages.BidStage.TheVariants.{Awarded, Priced, Paid}
use Rattle.rules.specs.Calls.{Prices, Averages, AdjustTerms, Call, open_account, add_location, take_hold, place_bid, close_bidding, clear_hour, price_hour, pay_account, adjust_account, Answer, done, numbered, counted, paid_out, adjusted, refused}
use Rattle.rules.specs.Credit.{available_credit}
use Rattle.rules.specs.Ledger.{Ledger}
use Rattle.rules.specs.Readings.{cash_of, read_cash, read_balancing, read_stage}
use Rattle.rules.specs.Runs.{ledger_at, answers_to}
use Rattle.rules.specs.Words.{up_to}

-- days of 24 hours, in months 8 and 13
abbrev month8 : Day
month8 = record {
  hours = pos 24;
  month = pos 8;
  hours_low = le_z_yes tt;
  hours_high = le_z_yes tt;
  month_low = le_z_yes tt;
  month_high = le_z_yes tt;
}

abbrev month13 : Day
month13 = record {
  hours = pos 24;
  month = pos 13;
  hours_low = le_z_yes tt;
  hours_high = le_z_yes tt;
  month_low = le_z_yes tt;
  month_high = le_z_yes tt;
}

-- one price everywhere, one average everywhere
abbrev posted : ℕ → Prices
posted p l s = Ok (pos p)

abbrev average : ℤ → Averages
average t l h = Ok t

-- runs in month 13, where nodes have no limit, at a price of 6,000 and at no price
abbrev after : List Call → Ledger
after cs = ledger_at (posted 6000) month13 cs

abbrev answers : List Call → List Answer
answers cs = answers_to (posted 6000) month13 cs

abbrev answers_free : List Call → List Answer
answers_free cs = answers_to (posted 0) month13 cs

-- calls of the one account, for hour 1
abbrev account : ℕ → Call
account limit = open_account (pos 1) (pos limit)

abbrev location : Class → ℕ → Call
location class limit = add_location (class_letter class) (pos limit)

abbrev hold : ℕ → Side → ℕ → Call
hold place side quantity = take_hold (pos 1) (pos place) (side_letter side) (pos quantity)

abbrev segment : ℕ → ℕ → Segment
segment end p = record { end = pos end; price = pos p }

abbrev bid : ℕ → List Segment → Call
bid number curve = place_bid (pos number) (pos 1) curve

abbrev clear : ℕ → Call
clear day_ahead = clear_hour (pos 1) (pos day_ahead ∷ [])

abbrev pay : Call
pay = pay_account (pos 1)

-- a hold of a quantity by an account of 100,000 cents
abbrev held : ℕ → List Call
held quantity = account 100000 ∷ location Node 100000 ∷ hold 1 Supply quantity ∷ []

-- the supply bid on a hold of 2,000
abbrev offered : List Call
offered = held 2000 ++ (bid 1 (segment 1000 3000 ∷ segment 1500 4000 ∷ []) ∷ [])

abbrev cleared_at : ℕ → List Call
cleared_at day_ahead = offered ++ (close_bidding ∷ clear day_ahead ∷ [])

abbrev priced_at : ℕ → ℕ → List Call
priced_at day_ahead t = cleared_at day_ahead ++ (price_hour (pos 1) (average (pos t)) (average (pos 0)) ∷ [])

abbrev paid_at : ℕ → ℕ → List Call
paid_at day_ahead t = priced_at day_ahead t ++ (pay ∷ [])

abbrev begun : List Answer
begun = numbered (pos 1) ∷ numbered (pos 1) ∷ numbered (pos 1) ∷ []

-- one bid, from the account to the payment
abbrev paid_for : Class → Side → ℕ → ℕ → Averages → Averages → List Call
paid_for class side quantity day_ahead dispatch hasp =
    account 10000000000 ∷ location class 100000 ∷ hold 1 side quantity
    ∷ bid 1 (segment quantity day_ahead ∷ []) ∷ close_bidding ∷ clear day_ahead
    ∷ price_hour (pos 1) dispatch hasp ∷ pay ∷ []

abbrev paying : ℤ → List Answer
paying c = begun ++ (numbered (pos 1) ∷ done ∷ counted (pos 1) ∷ done ∷ paid_out (pos 1) c ∷ [])

-- four fifteen-minute prices, and demand of 10 at an intertie
abbrev hasp : ℤ
hasp = pos 3 *ℤ (pos 4000 +ℤ (pos 4100 +ℤ (pos 4200 +ℤ pos 4301)))

abbrev hasp_paid : List Call
hasp_paid = paid_for Intertie Demand 10 4100 (average (pos 0)) (average hasp)

-- supply at a node, day-ahead price 0, so that the amount is quantity × - average
abbrev gained : ℕ → ℤ → List Call
gained quantity t = paid_for Node Supply quantity 0 (average t) (average (pos 0))

-- supply of 60 and demand of an entity at a node of limit 1,000, in month 8
abbrev both_sides : ℕ → List Answer
both_sides demand = answers_to (posted 0) month8 (
    account 100000 ∷ location Node 1000 ∷ hold 1 Supply 60 ∷ bid 1 (segment 60 3000 ∷ [])
    ∷ hold 1 Demand demand ∷ bid 2 (segment demand 3000 ∷ []) ∷ [])

abbrev both_asked : Answer → List Answer
both_asked last = begun ++ (numbered (pos 1) ∷ numbered (pos 2) ∷ last ∷ [])

-- a CRR of 100 from factor 5,000 to -3,000, and supply at factor 4,000; only the first hour is peak
abbrev shadowed : AdjustTerms
shadowed = record {
  account = pos 1;
  constraint = pos 1;
  period = period_letter Peak;
  flow = pos 1000;
  factors = pos 5000 ∷ neg_ℤ (pos 3000) ∷ pos 4000 ∷ [];
  shadows = (pos 2000 ∷ replicate 4 (pos 1000)) ++ replicate 115 (pos 0);
  marks = pos 1 ∷ replicate 23 (pos 0);
  crrs = record { source = pos 1; sink = pos 2; quantity = pos 100 } ∷ [];
}

abbrev adjusted_by : ℕ → List Call
adjusted_by quantity =
    account 10000000000 ∷ location Node 0 ∷ location Node 0 ∷ location Node 100000
    ∷ hold 3 Supply quantity ∷ bid 1 (segment quantity 0 ∷ []) ∷ close_bidding ∷ []
    ++ (map (λ h. clear_hour h (replicate 3 (pos 0))) (up_to 24) ++ (adjust_account shadowed ∷ []))

abbrev adjusting : ℤ → List Answer
adjusting c =
    (numbered (pos 1) ∷ numbered (pos 1) ∷ numbered (pos 2) ∷ numbered (pos 3) ∷ numbered (pos 1) ∷ numbered (pos 1) ∷ [])
    ++ (done ∷ counted (pos 1) ∷ [])
    ++ (replicate 23 (counted (pos 0)) ++ (adjusted c ∷ []))

pub record Figures : Type 0 where
  -- limit 100,000, price 6,000: a hold of 2,000 leaves 0, 2,001 is refused 7
  pub hold_fits : answers (held 2000) ≡ begun
  pub hold_leaves : available_credit (after (held 2000)) (pos 1) ≡ pos 0
  pub hold_refused : answers (held 2001) ≡ numbered (pos 1) ∷ numbered (pos 1) ∷ refused (OverCredit (pos 1)) ∷ []
  -- the bid leaves 3,000,000; the awards at 3,999, 4,000 and 2,999
  pub bid_leaves : available_credit (after offered) (pos 1) ≡ pos 3000000
  pub awards_lower : read_stage (after (cleared_at 3999)) (pos 1) ≡ Ok (Awarded (pos 1000))
  pub awards_upper : read_stage (after (cleared_at 4000)) (pos 1) ≡ Ok (Awarded (pos 1500))
  pub awards_none : answers (cleared_at 2999) ≡ begun ++ (numbered (pos 1) ∷ done ∷ counted (pos 0) ∷ [])
  pub ends : read_stage (after (cleared_at 2999)) (pos 1) ≡ Err (NotStanding (pos 1))
  -- 3,999 and T 54,000: the amount is -6,012,000, available is 5,988,000, pay gives -50,100 cents
  pub amount_exact : read_stage (after (priced_at 3999 54000)) (pos 1) ≡ Ok (Priced (pos 1000) (neg_ℤ (pos 6012000)))
  pub priced_leaves : available_credit (after (priced_at 3999 54000)) (pos 1) ≡ pos 5988000
  pub pays : answers (paid_at 3999 54000) ≡ paying (neg_ℤ (pos 50100))
  pub paid_leaves : available_credit (after (paid_at 3999 54000)) (pos 1) ≡ pos 12000000
  pub cash_moves : read_cash (after (paid_at 3999 54000)) (pos 1) ≡ Ok (neg_ℤ (pos 50100))
  -- HASP 4,000, 4,100, 4,200, 4,301 and day-ahead 4,100: demand of 10 has 6,030 and pays 50 cents
  pub hasp_amount : read_stage (after hasp_paid) (pos 1) ≡ Ok (Paid (pos 10) (pos 6030))
  pub hasp_pays : answers hasp_paid ≡ paying (pos 50)
  -- amounts 60, -60 and 59 pay 1, -1 and 0
  pub half_up : answers_free (gained 60 (neg_ℤ (pos 1))) ≡ paying (pos 1)
  pub half_down : answers_free (gained 60 (pos 1)) ≡ paying (neg_ℤ (pos 1))
  pub below_half : answers_free (gained 59 (neg_ℤ (pos 1))) ≡ paying (pos 0)
  -- node limit 1,000, month 8: supply 60 and demand 40 stand; 41 is refused 12
  pub within_position_limit : both_sides 40 ≡ both_asked (numbered (pos 2))
  pub beyond_position : both_sides 41 ≡ both_asked (refused (OverPosition (pos 1)))
  -- supply 250 at factor 4,000 does not pass; 251 adjusts 8,000 cents, from cash to the balancing account
  pub not_passing : answers_free (adjusted_by 250) ≡ adjusting (pos 0)
  pub passing : answers_free (adjusted_by 251) ≡ adjusting (pos 8000)
  pub clawed_back : cash_of (ledger_at (posted 0) month13 (adjusted_by 251)) (pos 1) ≡ neg_ℤ (pos 8000)
  pub balanced : read_balancing (ledger_at (posted 0) month13 (adjusted_by 251)) ≡ pos 8000
