-- Proved in Order.
use Rattle.laws.proofs.Order.{orderly_runs}
use Rattle.laws.proofs.standing.orderly_runs.Goals as goal

pub returns : goal.returns
returns c = orderly_runs
