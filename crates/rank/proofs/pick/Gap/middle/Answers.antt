-- The chain gives what the gap holds of the list, and `nth` takes the one at half of the count.
use Rattle.std.proofs.Common.{rules, tests}
use Rattle.std.proofs.lemmas.Iterator.{YieldsList-from_slice}
use Rattle.std.proofs.lemmas.Iterator.Consumers.{YieldsList-from_filter, nth_from_yields_List}
use Rattle.rank.specs.Narrow.{between}
use Rattle.rank.specs.Ranks.{before}
use Rattle.rank.proofs.Narrowing.{middle_between}
use Rattle.rank.proofs.pick.Gap.middle.Goals as goal

pub returns : goal.returns
returns g c =
    let nth = nth_from_yields_List c.nth.result c.nth.new.self _ c.nth.ensures.ran
    (YieldsList-from_filter _ (between (before g.T.Ord.cmp) c.args.self.now) (YieldsList-from_slice c.args.items.now cc) c.filter.ensures.closure (λ x b q k. search (rules, tests))) in
    middle_between (before g.T.Ord.cmp) c.args.self.now c.args.items.now c.copied.result (search rules)
