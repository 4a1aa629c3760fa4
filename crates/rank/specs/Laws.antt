-- The laws of the two orders: both comparisons are total, so what they call less goes before. Assumes nothing.
use Rattle.std.proofs.Common.{◌≡◌, true, false, not, ◌≢◌, rules, arith}
use Rattle.std.specs.Cmp.{IsTotalOrder}
use Rattle.std.specs.Cmp.Rules.{comparing}
use Rattle.std.proofs.lemmas.Int.{ints}
use Rattle.rank.specs.declared.spread.DatedSpread.{DatedSpread}
use Rattle.rank.specs.declared.standing.Standing.{Standing}
use Rattle.rank.specs.Orders.{spread_cmp, lower_spread, standing_cmp, higher_standing}
use Rattle.rank.specs.Ranks.{StrictOrder}
use Rattle.rank.specs.Before.{before_itself, before_trans}

spread_total : IsTotalOrder spread_cmp
spread_total = search comparing

standing_total : IsTotalOrder standing_cmp
standing_total = search comparing

pub spread_strict : (x : DatedSpread) → lower_spread x x ≡ false
spread_strict = before_itself spread_cmp spread_total

pub spread_transitive : (x y z : DatedSpread) → lower_spread x y ≡ true → lower_spread y z ≡ true → lower_spread x z ≡ true
spread_transitive = before_trans spread_cmp spread_total

pub spread_decides : (x y : DatedSpread) → (x ≢ y) → lower_spread x y ≡ not (lower_spread y x)
spread_decides x y ne = search rules

-- spreads that are not before one another have one value
pub spread_tied : (x y : DatedSpread) → lower_spread x y ≡ false → lower_spread y x ≡ false → x.value ≡ y.value
spread_tied x y a b = grind (arith, ints)

pub standing_strict : (x : Standing) → higher_standing x x ≡ false
standing_strict = before_itself standing_cmp standing_total

pub standing_transitive : (x y z : Standing) → higher_standing x y ≡ true → higher_standing y z ≡ true → higher_standing x z ≡ true
standing_transitive = before_trans standing_cmp standing_total

pub standing_decides : (x y : Standing) → (x ≢ y) → higher_standing x y ≡ not (higher_standing y x)
standing_decides x y ne = search rules

pub spread_order : StrictOrder lower_spread
spread_order = record { strict = spread_strict; transitive = spread_transitive; decides = spread_decides }

pub standing_order : StrictOrder higher_standing
standing_order = record { strict = standing_strict; transitive = standing_transitive; decides = standing_decides }
