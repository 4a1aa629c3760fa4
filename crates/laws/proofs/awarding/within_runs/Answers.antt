-- Proved in Cover.
use Rattle.laws.proofs.Cover.{within_runs}
use Rattle.laws.proofs.awarding.within_runs.Goals as goal

pub returns : goal.returns
returns c = within_runs
