-- Proved in Cover.
use Rattle.laws.proofs.Cover.{credit_runs}
use Rattle.laws.proofs.money.credit_runs.Goals as goal

pub returns : goal.returns
returns c = credit_runs
