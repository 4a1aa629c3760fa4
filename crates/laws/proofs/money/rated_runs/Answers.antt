-- Proved in Rates.
use Rattle.laws.proofs.Rates.{rated_runs}
use Rattle.laws.proofs.money.rated_runs.Goals as goal

pub returns : goal.returns
returns c = rated_runs
