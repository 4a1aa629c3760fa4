-- A turn adds the price at its index, so the sum by index has one price more.
use Rattle.std.proofs.Common.{get_or, pos, arith, w32, SFits, rules}
use Rattle.std.proofs.lemmas.Int.{ints}
use Rattle.lists.specs.Lists.{num}
use Rattle.realtime.proofs.Sums.{summed_more}
use Rattle.realtime.proofs.feed.reading.sum_of.Goals as goal

pub loop-price-preserved : goal.loop-price-preserved
loop-price-preserved c =
    let more = summed_more (num c.args.prices.now) c.loop-price.price-index in
    let f : SFits w32 (get_or c.args.prices.now c.loop-price.price-index (pos 0)) = search rules in
    let e = c.from-sum.ensures in
    record { so_far = omega (arith, ints); low = omega (arith, ints); high = omega (arith, ints) }
