-- Outside the gap no element has the rank, and each turn leaves fewer elements in it.
use Rattle.std.proofs.Common.{count_by}
use Rattle.rank.specs.Narrow.{between}
use Rattle.rank.specs.Ranks.{before}
use Rattle.rank.proofs.Narrowing.{Around}
use Rattle.rank.proofs.pick.pick.Given as goal

abbrev pub invariant-loop-x : goal.invariant-loop-x
invariant-loop-x g l = Around (before g.T.Ord.cmp) l.items l.ahead l.gap

abbrev pub decreases-loop-x : goal.decreases-loop-x
decreases-loop-x g l = count_by (between (before g.T.Ord.cmp) l.gap) l.items
