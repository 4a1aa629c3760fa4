-- The twelve calls with their arguments as handed in, and the answers. Assumes nothing.
-- Arguments are any numbers, any letters and lists of any length. A letter is handed in as its code.
--   Prices      what a policy means: a reference price of a location and side, in twelfths, or a fault
--   Averages    what a source means: an average of a location and hour, in twelfths, or a fault
--   AdjustTerms the arguments of an adjustment
--   Call, Answer
use Rattle.std.specs.Prelude.{ℕ, List, ℤ, Result}
use Rattle.market.specs.declared.words.Side.{Side}
use Rattle.market.specs.declared.segment.Segment.{Segment}
use Rattle.market.specs.declared.fault.PolicyFault.{PolicyFault}
use Rattle.market.specs.declared.fault.SourceFault.{SourceFault}
use Rattle.market.specs.declared.fault.Fault.{Fault}
use Rattle.rules.specs.declared.crr.Crr.{Crr}

abbrev pub Prices : Type 0
Prices = ℤ → Side → Result ℤ PolicyFault

abbrev pub Averages : Type 0
Averages = ℤ → ℤ → Result ℤ SourceFault

pub record AdjustTerms : Type 0 where
  pub account : ℤ
  pub constraint : ℤ
  pub period : ℕ
  pub flow : ℤ
  pub factors : List ℤ
  pub shadows : List ℤ
  pub marks : List ℤ
  pub crrs : List Crr

pub data Call : Type 0 where
  open_account : (entity limit : ℤ) → Call
  add_location : (class : ℕ) (limit : ℤ) → Call
  set_limit : (account limit : ℤ) → Call
  take_hold : (account location : ℤ) (side : ℕ) (quantity : ℤ) → Call
  release_hold : (hold : ℤ) → Call
  place_bid : (hold hour : ℤ) (curve : List Segment) → Call
  withdraw_bid : (bid : ℤ) → Call
  close_bidding : Call
  clear_hour : (hour : ℤ) (prices : List ℤ) → Call
  price_hour : (hour : ℤ) (dispatch hasp : Averages) → Call
  pay_account : (account : ℤ) → Call
  adjust_account : AdjustTerms → Call

-- a refusal has its number, place and layer, and the fault below whole
pub data Answer : Type 0 where
  done : Answer
  numbered : (number : ℤ) → Answer
  counted : (awards : ℤ) → Answer
  paid_out : (awards cents : ℤ) → Answer
  adjusted : (cents : ℤ) → Answer
  refused : Fault → Answer
