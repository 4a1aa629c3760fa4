-- Proved in Amounts.
use Rattle.laws.proofs.Amounts.{amount_runs}
use Rattle.laws.proofs.awarding.amount_runs.Goals as goal

pub returns : goal.returns
returns c = amount_runs
