-- Proved in Limits.
use Rattle.laws.proofs.Limits.{position_runs}
use Rattle.laws.proofs.positions.position_runs.Goals as goal

pub returns : goal.returns
returns c = position_runs
