-- Proved in Numbers.
use Rattle.laws.proofs.Numbers.{numbered_runs}
use Rattle.laws.proofs.standing.numbered_runs.Goals as goal

pub returns : goal.returns
returns c = numbered_runs
