-- Proved in Netted.
use Rattle.laws.proofs.Netted.{netted_runs}
use Rattle.laws.proofs.positions.netted_runs.Goals as goal

pub returns : goal.returns
returns c = netted_runs
