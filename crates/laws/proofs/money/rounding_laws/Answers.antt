-- Proved in Rounds.
use Rattle.laws.proofs.Rounds.{rounding}
use Rattle.laws.proofs.money.rounding_laws.Goals as goal

pub returns : goal.returns
returns c = rounding
