-- Proved in Cash.
use Rattle.laws.proofs.Cash.{cash_runs}
use Rattle.laws.proofs.money.cash_runs.Goals as goal

pub returns : goal.returns
returns c = cash_runs
