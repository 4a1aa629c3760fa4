-- The sum so far is that of the prices so far, each within 32 bits.
use Rattle.std.proofs.Common.{◌≡◌, ◌*◌, pos, neg_ℤ, ◌≤ℤ◌}
use Rattle.lists.specs.Lists.{num}
use Rattle.realtime.specs.Feeds.{summed}
use Rattle.realtime.proofs.feed.reading.sum_of.Given as goal

abbrev pub invariant-loop-price : goal.invariant-loop-price
invariant-loop-price l = record {
  so_far : l.sum ≡ summed (num l.prices) l.price-index;
  low : neg_ℤ (pos (2147483648 * l.price-index)) ≤ℤ l.sum;
  high : l.sum ≤ℤ pos (2147483648 * l.price-index);
}
