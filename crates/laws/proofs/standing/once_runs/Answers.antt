-- Proved in Once.
use Rattle.laws.proofs.Once.{once_runs}
use Rattle.laws.proofs.standing.once_runs.Goals as goal

pub returns : goal.returns
returns c = once_runs
