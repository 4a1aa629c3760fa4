-- Laws on what stands. Assumes nothing.
--   Orderly m l        a closed book has no holds, and an open one only booked bids
--   Sized m l          no table has more entries than places
--   Rising number_of from xs next   numbers rise from a first one on, and stay below the next
--   NumberedOnce m l   holds and bids stand in the order of their numbers, and no number is given twice
--   number_in answer    the number that an answer has, if any
--   table_of c          the table that a call enters something into
--   numbers_given table m l cs  the numbers that a run answers to the calls that enter into a table
--   InTurn table, NumbersInTurn   in every run, accounts, locations, holds and bids are each numbered 1, 2, 3 and on
--   Unlike alike xs    no two of a list are alike
--   EachOnce m l       an account has one bid a side, location and hour, and one adjustment a constraint and period
use Rattle.std.specs.Prelude.{◌≡◌, ℕ, ◌≤◌, Bool, true, false, cond, ◌&&◌, List, [], ◌∷◌, ◌++◌, length, ℤ, pos, ◌+ℤ◌, ◌≤ℤ◌, ◌==◌}
use Rattle.std.specs.List.{AllByRecursion}
use Rattle.market.specs.declared.day.Day.{Day}
use Rattle.rules.specs.declared.entries.ClawbackEntry.{ClawbackEntry}
use Rattle.rules.specs.declared.stages.BidStage.TheVariants.{Booked}
use Rattle.rules.specs.Adjustment.{mark_of}
use Rattle.rules.specs.Calls.{Prices, Call, open_account, add_location, set_limit, take_hold, release_hold, place_bid, withdraw_bid, close_bidding, clear_hour, price_hour, pay_account, adjust_account, Answer, done, numbered, counted, paid_out, adjusted, refused}
use Rattle.rules.specs.Ledger.{BidEntry, Ledger, empty_ledger}
use Rattle.rules.specs.Questions.{is_open, same_side}
use Rattle.rules.specs.Rules.{answer_to, move_by}
use Rattle.rules.specs.Words.{eq_z, count_of, up_to}

pub record Orderly (m : Prices) (l : Ledger) : Type 0 where
  pub no_holds_stand : is_open l.stage ≡ false → l.holds.entries ≡ []
  pub all_booked : is_open l.stage ≡ true → AllByRecursion (λ b. b.stage ≡ Booked) l.bids.entries

pub record Sized (m : Prices) (l : Ledger) : Type 0 where
  pub accounts : length l.accounts.entries ≤ 16
  pub locations : length l.locations.entries ≤ 64
  pub holds : length l.holds.entries ≤ 32
  pub bids : length l.bids.entries ≤ 256

abbrev pub Rising : {X : Type 0} → (X → ℤ) → ℤ → List X → ℤ → Type 0
Rising number_of from [] next = from ≤ℤ next
Rising number_of from (x ∷ xs) next = (from ≤ℤ number_of x) × Rising number_of (number_of x +ℤ pos 1) xs next

-- accounts and locations never leave: the next number is one more than there are
pub record NumberedOnce (m : Prices) (l : Ledger) : Type 0 where
  pub accounts : l.accounts.next ≡ count_of l.accounts.entries +ℤ pos 1
  pub locations : l.locations.next ≡ count_of l.locations.entries +ℤ pos 1
  pub holds : Rising (λ h. h.number) (pos 1) l.holds.entries l.holds.next
  pub bids : Rising (λ b. b.number) (pos 1) l.bids.entries l.bids.next

abbrev pub number_in : Answer → List ℤ
number_in done = []
number_in (numbered number) = number ∷ []
number_in (counted awards) = []
number_in (paid_out awards cents) = []
number_in (adjusted cents) = []
number_in (refused fault) = []

-- the table that a call enters something into: accounts 1, locations 2, holds 3, bids 4, none 0
abbrev pub table_of : Call → ℕ
table_of (open_account entity limit) = 1
table_of (add_location class limit) = 2
table_of (set_limit account limit) = 0
table_of (take_hold account location side quantity) = 3
table_of (release_hold hold) = 0
table_of (place_bid hold hour curve) = 4
table_of (withdraw_bid bid) = 0
table_of close_bidding = 0
table_of (clear_hour hour prices) = 0
table_of (price_hour hour dispatch hasp) = 0
table_of (pay_account account) = 0
table_of (adjust_account x) = 0

-- the numbers that a run answers to the calls that enter into a table
abbrev pub numbers_given : ℕ → Prices → Ledger → List Call → List ℤ
numbers_given table m l [] = []
numbers_given table m l (c ∷ cs) =
    cond (table_of c == table) (number_in (answer_to m l c)) [] ++ numbers_given table m (move_by m l c) cs

abbrev pub InTurn : ℕ → Type 0
InTurn table = (m : Prices) (day : Day) (cs : List Call)
    → numbers_given table m (empty_ledger day) cs ≡ up_to (length (numbers_given table m (empty_ledger day) cs))

pub record NumbersInTurn : Type 0 where
  pub accounts : InTurn 1
  pub locations : InTurn 2
  pub holds : InTurn 3
  pub bids : InTurn 4

abbrev pub Unlike : {X : Type 0} → (X → X → Bool) → List X → Type 0
Unlike alike [] = Unit {0}
Unlike alike (x ∷ xs) = AllByRecursion (λ y. alike x y ≡ false) xs × Unlike alike xs

abbrev pub same_bid : BidEntry → BidEntry → Bool
same_bid b d = eq_z b.account d.account
    && (same_side b.side d.side && (eq_z b.location d.location && eq_z b.hour d.hour))

abbrev pub same_clawback : ClawbackEntry → ClawbackEntry → Bool
same_clawback c d = eq_z c.account d.account && (eq_z c.constraint d.constraint && eq_z (mark_of c.period)
    (mark_of d.period))

pub record EachOnce (m : Prices) (l : Ledger) : Type 0 where
  pub bids : Unlike same_bid l.bids.entries
  pub clawbacks : Unlike same_clawback l.clawbacks
