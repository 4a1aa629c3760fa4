-- What a law over runs says. Assumes nothing.
--   EveryRun P   P holds of the ledger after every run of calls, good and refused, from an open, empty ledger
use Rattle.std.specs.Prelude.{List}
use Rattle.market.specs.declared.day.Day.{Day}
use Rattle.rules.specs.Calls.{Prices, Call}
use Rattle.rules.specs.Ledger.{Ledger}
use Rattle.rules.specs.Runs.{ledger_at}

abbrev pub EveryRun : (Prices → Ledger → Type 0) → Type 0
EveryRun P = (m : Prices) (day : Day) (cs : List Call) → P m (ledger_at m day cs)
