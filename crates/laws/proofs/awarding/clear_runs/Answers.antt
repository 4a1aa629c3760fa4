-- Proved in Clearing.
use Rattle.laws.proofs.Clearing.{clear_runs}
use Rattle.laws.proofs.awarding.clear_runs.Goals as goal

pub returns : goal.returns
returns c = clear_runs
