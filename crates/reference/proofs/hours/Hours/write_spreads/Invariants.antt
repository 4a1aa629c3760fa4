-- The spreads so far are those of the hours so far.
use Rattle.std.proofs.Common.{◌≡◌, length, take}
use Rattle.reference.specs.Spreads.{spreads_to}
use Rattle.reference.proofs.hours.Hours.write_spreads.Given as goal

abbrev pub invariant-loop-index : goal.invariant-loop-index
invariant-loop-index l = record {
  so_far : take l.index l.spreads ≡ spreads_to l.side l.self.averages.now l.self.day_ahead.now l.index;
  long : length l.spreads ≡ length l.fn.spreads;
}
