use Rattle.std.proofs.Common.{arith}
use Rattle.std.proofs.lemmas.Int.{ints}
use Rattle.reference.proofs.percentile.spread_of.Goals as goal

pub returns-in-Supply : goal.returns-in-Supply
returns-in-Supply c = rw c.in-Supply.is (omega (arith, ints))

pub returns-in-Demand : goal.returns-in-Demand
returns-in-Demand c = rw c.in-Demand.is (omega (arith, ints))
