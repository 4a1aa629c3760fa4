-- Proved in Cover.
use Rattle.laws.proofs.Cover.{covered_runs}
use Rattle.laws.proofs.money.covered_runs.Goals as goal

pub returns : goal.returns
returns c = covered_runs
