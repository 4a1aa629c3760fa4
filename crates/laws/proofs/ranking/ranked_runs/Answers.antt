-- Proved in Ranks.
use Rattle.laws.proofs.Ranks.{ranked_runs}
use Rattle.laws.proofs.ranking.ranked_runs.Goals as goal

pub returns : goal.returns
returns c = ranked_runs
