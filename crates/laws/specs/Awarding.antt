-- Laws on awards and amounts. Assumes nothing.
--   LastOf passes curve q     q is the end of the last segment that passes
--   AwardLaw                  an award is the end of the last segment that the day-ahead price meets; none, where none is met
--   AwardsWithin m l          an award's quantity is from 0 to its bid's highest point
--   meets prices b s          whether one day-ahead price a location meet a segment of a bid
--   ClearedBy hour prices before after   what clearing an hour does to the bids
--   ClearLaw m l              a clear that goes through does that, and answers how many of the hour's bids then stand
--   PricedIn m day cs l side location hour quantity amount   a price call of the run went through for that hour, its
--                             source had an average, and the amount is what this and the hour's day-ahead price give
--   AmountLaw                 so is every amount of a priced or paid award, after every run
use Rattle.std.specs.Prelude.{◌≡◌, Bool, true, false, List, ◌∷◌, ◌++◌, ℤ, pos, ◌≤ℤ◌, Some, None, Ok, filter}
use Rattle.std.specs.List.{AllByRecursion}
use Rattle.market.specs.declared.day.Day.{Day}
use Rattle.market.specs.declared.segment.Segment.{Segment}
use Rattle.market.specs.declared.words.Side.{Side}
use Rattle.rules.specs.declared.stages.BidStage.{BidStage}
use Rattle.rules.specs.declared.stages.BidStage.TheVariants.{Booked, Awarded, Priced, Paid}
use Rattle.rules.specs.Awards.{is_met, award_of, is_award, award_in, day_ahead_at, average_at, exact_amount}
use Rattle.rules.specs.Calls.{Prices, Averages, Call, clear_hour, price_hour, counted}
use Rattle.rules.specs.Credit.{highest_point}
use Rattle.rules.specs.Ledger.{BidEntry, Ledger}
use Rattle.rules.specs.Rules.{is_at, refusal_of, answer_to, move_by}
use Rattle.rules.specs.Runs.{ledger_at}
use Rattle.rules.specs.Words.{eq_z, count_of, at_place}

pub record LastOf (passes : Segment → Bool) (curve : List Segment) (q : ℤ) : Type 0 where
  pub front : List Segment
  pub last : Segment
  pub back : List Segment
  pub whole : curve ≡ front ++ (last ∷ back)
  pub met : passes last ≡ true
  pub none_later : AllByRecursion (λ s. passes s ≡ false) back
  pub end : q ≡ last.end

pub record AwardLaw : Type 0 where
  pub some : (side : Side) (day_ahead : ℤ) (curve : List Segment) (q : ℤ) → award_of side day_ahead curve ≡ Some q
      → LastOf (is_met side day_ahead) curve q
  pub none : (side : Side) (day_ahead : ℤ) (curve : List Segment) → award_of side day_ahead curve ≡ None
      → AllByRecursion (λ s. is_met side day_ahead s ≡ false) curve

abbrev pub AwardsWithin : Prices → Ledger → Type 0
AwardsWithin m l = AllByRecursion (λ b. is_award b.stage ≡ true
    → (pos 0 ≤ℤ award_in b.stage) × (award_in b.stage ≤ℤ highest_point b.curve)) l.bids.entries

abbrev pub meets : List ℤ → BidEntry → Segment → Bool
meets prices b = is_met b.side (at_place (pos 0) prices b.location)

pub record ClearedBy (hour : ℤ) (prices : List ℤ) (before after : List BidEntry) : Type 0 where
  -- each bid of the hour that stands has the end of the last of its segments that is met
  pub awarded : AllByRecursion (λ b. is_at hour b ≡ true
      → (q : ℤ) × (b.stage ≡ Awarded q) × LastOf (meets prices b) b.curve q) after
  -- and one without such a segment has ended
  pub ended : AllByRecursion (λ b. is_at hour b ≡ true
      → AllByRecursion (λ s. meets prices b s ≡ false) b.curve
      → AllByRecursion (λ d. eq_z d.number b.number ≡ false) after) before

pub record ClearLaw (m : Prices) (l : Ledger) : Type 0 where
  pub bids : (hour : ℤ) (prices : List ℤ) → refusal_of m l (clear_hour hour prices) ≡ None
      → ClearedBy hour prices l.bids.entries (move_by m l (clear_hour hour prices)).bids.entries
  pub count : (hour : ℤ) (prices : List ℤ) → refusal_of m l (clear_hour hour prices) ≡ None
      → answer_to m l (clear_hour hour prices)
      ≡ counted (count_of (filter (is_at hour) (move_by m l (clear_hour hour prices)).bids.entries))

pub record PricedIn (m : Prices) (day : Day) (cs : List Call) (l : Ledger) (side : Side)
    (location hour quantity amount : ℤ) : Type 0 where
  pub before : List Call
  pub after : List Call
  pub dispatch : Averages
  pub hasp : Averages
  pub average : ℤ
  pub called : cs ≡ before ++ (price_hour hour dispatch hasp ∷ after)
  pub went_through : refusal_of m (ledger_at m day before) (price_hour hour dispatch hasp) ≡ None
  pub averaged : average_at (ledger_at m day before) dispatch hasp location hour ≡ Ok average
  pub exact : amount ≡ exact_amount side quantity (day_ahead_at l location hour) average

abbrev pub StagePriced : Prices → Day → List Call → Ledger → BidEntry → BidStage → Type 0
StagePriced m day cs l b Booked = Unit {0}
StagePriced m day cs l b (Awarded quantity) = Unit {0}
StagePriced m day cs l b (Priced quantity amount) = PricedIn m day cs l b.side b.location b.hour quantity
    amount
StagePriced m day cs l b (Paid quantity amount) = PricedIn m day cs l b.side b.location b.hour quantity
    amount

abbrev pub AmountLaw : Type 0
AmountLaw = (m : Prices) (day : Day) (cs : List Call)
    → AllByRecursion (λ b. StagePriced m day cs (ledger_at m day cs) b b.stage) (ledger_at m day cs).bids.entries
