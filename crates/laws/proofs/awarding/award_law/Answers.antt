-- Proved in Award.
use Rattle.laws.proofs.Award.{award_law}
use Rattle.laws.proofs.awarding.award_law.Goals as goal

pub returns : goal.returns
returns c = award_law
