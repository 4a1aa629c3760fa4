-- The ledger of a Trading Day: what stands in it. Assumes nothing.
-- Quantities are in tenths of a MW, prices in cents per MWh, rates and averages in twelfths of a cent per MWh,
-- amounts 120 to the cent. Hours are counted from 1.
--   BidEntry, HourStage, Table, Ledger   plain data; the other entries are the records of the code
--   empty_ledger day            a day begins open, with nothing entered
--   with_entry t x              a table after one entry, which took the next number
--   with_entries t xs           a table whose entries were changed or struck
--   bid_with b s                a bid in another stage
--   with_stage l s, with_hours, with_accounts, with_locations, with_holds, with_bids, with_clawbacks  one part changed
--   account_at l n, location_at, hour_at  entries that never leave, by their numbers
--   hold_numbered l n, bid_numbered     holds and bids leave, so they are found, or not
--   holds_without l n, bids_without     the table after one left
use Rattle.std.specs.Prelude.{not, List, [], ◌∷◌, ◌++◌, replicate, ℤ, pos, ◌+ℤ◌, filter, Option, unsigned_abs}
use Rattle.market.specs.declared.day.Day.{Day}
use Rattle.market.specs.declared.words.Side.{Side}
use Rattle.market.specs.declared.words.Class.TheVariants.{Hub}
use Rattle.market.specs.declared.segment.Segment.{Segment}
use Rattle.rules.specs.declared.entries.AccountEntry.{AccountEntry}
use Rattle.rules.specs.declared.entries.LocationEntry.{LocationEntry}
use Rattle.rules.specs.declared.entries.HoldEntry.{HoldEntry}
use Rattle.rules.specs.declared.entries.ClawbackEntry.{ClawbackEntry}
use Rattle.rules.specs.declared.stages.BidStage.{BidStage}
use Rattle.rules.specs.declared.stages.DayStage.{DayStage}
use Rattle.rules.specs.declared.stages.DayStage.TheVariants.{Open}
use Rattle.rules.specs.Words.{eq_z, first, at_place}

-- the rate is that of the hold on which it was bid; the curve stays whole through every stage
pub record BidEntry : Type 0 where
  pub number : ℤ
  pub account : ℤ
  pub location : ℤ
  pub side : Side
  pub hour : ℤ
  pub curve : List Segment
  pub rate : ℤ
  pub stage : BidStage

-- from its clearing on, an hour has a day-ahead price for each location
pub data HourStage : Type 0 where
  uncleared : HourStage
  cleared : (prices : List ℤ) → HourStage
  cleared_and_priced : (prices : List ℤ) → HourStage

-- entries in the order of their numbers, and the next number; no number is given twice
pub record Table (X : Type 0) : Type 0 where
  pub entries : List X
  pub next : ℤ

pub record Ledger : Type 0 where
  pub day : Day
  pub stage : DayStage
  pub hours : List HourStage
  pub accounts : Table AccountEntry
  pub locations : Table LocationEntry
  pub holds : Table HoldEntry
  pub bids : Table BidEntry
  pub clawbacks : List ClawbackEntry

abbrev pub empty_table : {X : Type 0} → Table X
empty_table = record { entries = []; next = pos 1 }

abbrev ledger_from : Day → DayStage → List HourStage → Table AccountEntry → Table LocationEntry
    → Table HoldEntry → Table BidEntry → List ClawbackEntry → Ledger
ledger_from day stage hours accounts locations holds bids clawbacks = record {
  day = day;
  stage = stage;
  hours = hours;
  accounts = accounts;
  locations = locations;
  holds = holds;
  bids = bids;
  clawbacks = clawbacks;
}

abbrev pub empty_ledger : Day → Ledger
empty_ledger day =
    ledger_from day Open (replicate (unsigned_abs day.hours) uncleared) empty_table empty_table empty_table empty_table []

-- One part changed, the others as they were

abbrev pub with_entry : {X : Type 0} → Table X → X → Table X
with_entry t x = record { entries = t.entries ++ (x ∷ []); next = t.next +ℤ pos 1 }

abbrev pub with_entries : {X : Type 0} → Table X → List X → Table X
with_entries t xs = record { entries = xs; next = t.next }

abbrev pub bid_with : BidEntry → BidStage → BidEntry
bid_with b s = record {
  number = b.number;
  account = b.account;
  location = b.location;
  side = b.side;
  hour = b.hour;
  curve = b.curve;
  rate = b.rate;
  stage = s;
}

module _ (l : Ledger) where
  abbrev pub with_stage : DayStage → Ledger
  with_stage s = ledger_from l.day s l.hours l.accounts l.locations l.holds l.bids l.clawbacks

  abbrev pub with_hours : List HourStage → Ledger
  with_hours hs = ledger_from l.day l.stage hs l.accounts l.locations l.holds l.bids l.clawbacks

  abbrev pub with_accounts : Table AccountEntry → Ledger
  with_accounts t = ledger_from l.day l.stage l.hours t l.locations l.holds l.bids l.clawbacks

  abbrev pub with_locations : Table LocationEntry → Ledger
  with_locations t = ledger_from l.day l.stage l.hours l.accounts t l.holds l.bids l.clawbacks

  abbrev pub with_holds : Table HoldEntry → Ledger
  with_holds t = ledger_from l.day l.stage l.hours l.accounts l.locations t l.bids l.clawbacks

  abbrev pub with_bids : Table BidEntry → Ledger
  with_bids t = ledger_from l.day l.stage l.hours l.accounts l.locations l.holds t l.clawbacks

  abbrev pub with_clawbacks : List ClawbackEntry → Ledger
  with_clawbacks cs = ledger_from l.day l.stage l.hours l.accounts l.locations l.holds l.bids cs

-- Entries by their numbers

-- read only of numbers that question 2 has found known, so that these two are never seen
abbrev pub no_account : AccountEntry
no_account = record { entity = pos 0; limit = pos 0 }

abbrev pub no_location : LocationEntry
no_location = record { class = Hub; limit = pos 0 }

abbrev pub account_at : Ledger → ℤ → AccountEntry
account_at l n = at_place no_account l.accounts.entries n

abbrev pub location_at : Ledger → ℤ → LocationEntry
location_at l n = at_place no_location l.locations.entries n

abbrev pub hour_at : Ledger → ℤ → HourStage
hour_at l n = at_place uncleared l.hours n

abbrev pub hold_numbered : Ledger → ℤ → Option HoldEntry
hold_numbered l n = first (filter (λ h. eq_z h.number n) l.holds.entries)

abbrev pub bid_numbered : Ledger → ℤ → Option BidEntry
bid_numbered l n = first (filter (λ b. eq_z b.number n) l.bids.entries)

abbrev pub holds_without : Ledger → ℤ → Table HoldEntry
holds_without l n = with_entries l.holds (filter (λ h. not (eq_z h.number n)) l.holds.entries)

abbrev pub bids_without : Ledger → ℤ → Table BidEntry
bids_without l n = with_entries l.bids (filter (λ b. not (eq_z b.number n)) l.bids.entries)
