-- Proved in Turns.
use Rattle.laws.proofs.Turns.{numbers_in_turn}
use Rattle.laws.proofs.standing.numbers_in_turn.Goals as goal

pub returns : goal.returns
returns c = numbers_in_turn
