-- The definitions compute; the least rank by arithmetic.
use Rattle.std.proofs.Common.{pos, negsuc, refl, arith, lit<, lit≤}
use Rattle.reference.specs.Percentile.{PercentileRank}
use Rattle.reference.proofs.figures.figures_hold.Goals as goal

rank-of-20 : PercentileRank 20 19
rank-of-20 = record { enough = lit≤ tt; least = λ k h. omega arith }

rank-of-21 : PercentileRank 21 20
rank-of-21 = record { enough = lit≤ tt; least = λ k h. omega arith }

pub returns : goal.returns
returns c = record {
  twenty = refl;
  twenty_picked = record { rank = 19; percentile = rank-of-20; spread = record { value = pos 19; hour = pos 19 }; picked = ((18, lit< tt, λ d. refl), refl); priced = refl };
  twenty_one = refl;
  twenty_one_picked = record { rank = 20; percentile = rank-of-21; spread = record { value = pos 20; hour = pos 20 }; picked = ((19, lit< tt, λ d. refl), refl); priced = refl };
  demand = refl;
  demand_picked = record { rank = 19; percentile = rank-of-20; spread = record { value = negsuc 1; hour = pos 2 }; picked = ((1, lit< tt, λ d. refl), refl); priced = refl };
}
