-- Proved in Sizes.
use Rattle.laws.proofs.Sizes.{sized_runs}
use Rattle.laws.proofs.standing.sized_runs.Goals as goal

pub returns : goal.returns
returns c = sized_runs
