-- The law of booking a bid. Assumes nothing.
--   BookedOn l after hold hour curve   its hold is spent and it is entered, with the hold's account, location, side
--                                      and rate; all else stays
--   BookingLaw m l    a bid is booked exactly when its questions all say yes; a refused one changes nothing
use Rattle.std.specs.Prelude.{◌≡◌, List, [], ◌∷◌, ◌++◌, ℤ, pos, ◌+ℤ◌, None}
use Rattle.std.specs.List.{AllByRecursion}
use Rattle.market.specs.declared.segment.Segment.{Segment}
use Rattle.market.specs.declared.fault.Fault.{Fault}
use Rattle.rules.specs.declared.entries.HoldEntry.{HoldEntry}
use Rattle.rules.specs.Calls.{Prices, place_bid, numbered, refused}
use Rattle.rules.specs.Ledger.{Ledger}
use Rattle.rules.specs.Rules.{questions, new_bid, answer_to, move_by}

pub record BookedOn (l after : Ledger) (hold hour : ℤ) (curve : List Segment) : Type 0 where
  pub front : List HoldEntry
  pub spent : HoldEntry
  pub back : List HoldEntry
  pub its_number : spent.number ≡ hold
  pub stood : l.holds.entries ≡ front ++ (spent ∷ back)
  pub holds : after.holds.entries ≡ front ++ back
  pub bids : after.bids.entries ≡ l.bids.entries ++ (new_bid l spent hour curve ∷ [])
  pub next_hold : after.holds.next ≡ l.holds.next
  pub next_bid : after.bids.next ≡ l.bids.next +ℤ pos 1
  pub day : after.day ≡ l.day
  pub stage : after.stage ≡ l.stage
  pub hours : after.hours ≡ l.hours
  pub accounts : after.accounts ≡ l.accounts
  pub locations : after.locations ≡ l.locations
  pub clawbacks : after.clawbacks ≡ l.clawbacks

pub record BookingLaw (m : Prices) (l : Ledger) : Type 0 where
  pub booked : (hold hour : ℤ) (curve : List Segment)
      → AllByRecursion (λ q. q ≡ None) (questions m l (place_bid hold hour curve))
      → (answer_to m l (place_bid hold hour curve) ≡ numbered l.bids.next) × BookedOn l
      (move_by m l (place_bid hold hour curve)) hold hour curve
  pub only_then : (hold hour : ℤ) (curve : List Segment) (n : ℤ) → answer_to m l (place_bid hold hour curve) ≡ numbered
      n → AllByRecursion (λ q. q ≡ None) (questions m l (place_bid hold hour curve))
  pub else_nothing : (hold hour : ℤ) (curve : List Segment) (fault : Fault) → answer_to m l (place_bid hold hour curve)
      ≡ refused fault → move_by m l (place_bid hold hour curve) ≡ l
