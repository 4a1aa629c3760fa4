-- Each turn leaves fewer elements in the gap; where none is left, no element has the rank.
use Rattle.std.proofs.Common.{rules}
use Rattle.rank.proofs.Narrowing.{falls_low, falls_high, none_between}
use Rattle.rank.proofs.pick.pick.Goals as goal

pub loop-x-smaller-in-Less : goal.loop-x-smaller-in-Less
loop-x-smaller-in-Less g c = falls_low g.T.Ord.cmp g.met.T.Ord.total c.loop-x.gap c.args.items.now c.in-Some.x c.in-Some.ensures.0 c.in-Some.ensures.1

pub loop-x-smaller : goal.loop-x-smaller
loop-x-smaller g c = falls_high g.T.Ord.cmp g.met.T.Ord.total c.loop-x.gap c.args.items.now c.in-Some.x c.in-Some.ensures.0 c.in-Some.ensures.1

pub returns : goal.returns
returns g c = none_between g.T.Ord.cmp g.met.T.Ord.total c.args.items.now c.in_ok-ahead.ahead c.args.rank c.loop-x.gap (search rules) c.loop-x.invariant c.in_default.ensures
