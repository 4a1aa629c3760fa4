-- Runs: a day's calls, from the first on. Assumes nothing.
--   ledger_after m l cs, answers_from m l cs  the ledger after some calls, and its answers to them
--   ledger_at m day cs, answers_to m day cs  from the start of a day
use Rattle.std.specs.Prelude.{List, [], ◌∷◌}
use Rattle.market.specs.declared.day.Day.{Day}
use Rattle.rules.specs.Ledger.{Ledger, empty_ledger}
use Rattle.rules.specs.Calls.{Prices, Call, Answer}
use Rattle.rules.specs.Rules.{answer_to, move_by}

abbrev pub ledger_after : Prices → Ledger → List Call → Ledger
ledger_after m l [] = l
ledger_after m l (c ∷ cs) = ledger_after m (move_by m l c) cs

abbrev pub answers_from : Prices → Ledger → List Call → List Answer
answers_from m l [] = []
answers_from m l (c ∷ cs) = answer_to m l c ∷ answers_from m (move_by m l c) cs

abbrev pub ledger_at : Prices → Day → List Call → Ledger
ledger_at m day cs = ledger_after m (empty_ledger day) cs

abbrev pub answers_to : Prices → Day → List Call → List Answer
answers_to m day cs = answers_from m (empty_ledger day) cs
