-- Each element adds 1 where it lies in the gap, so the sum is their count.
use Rattle.std.proofs.Common.{rules, tests, of_calls, arith}
use Rattle.std.proofs.lemmas.Iterator.{YieldsList-from_slice, YieldsList-from_map}
use Rattle.std.proofs.lemmas.Iterator.Consumers.{sum_by_from_yields_List, fits_by_from_yields_list}
use Rattle.std.proofs.lemmas.List.Sums.{count_by-le-length}
use Rattle.rank.specs.Narrow.{between}
use Rattle.rank.specs.Ranks.{before}
use Rattle.rank.proofs.Counts.{one}
use Rattle.rank.proofs.pick.Gap.count.Goals as goal

pub sum-requires : goal.sum-requires
sum-requires g c =
    let p = between (before g.T.Ord.cmp) c.args.self.now in
    record {
      can = search of_calls;
      finite = search of_calls;
      fits =
          fits_by_from_yields_list _ c.args.items.now c.map.result _ (YieldsList-from_map _ (one p) (YieldsList-from_slice c.args.items.now cc) c.map.ensures.closure (λ x r q k. search (rules, tests)))
          (omega (arith, count_by-le-length p c.args.items.now));
    }

pub returns : goal.returns
returns g c =
    let p = between (before g.T.Ord.cmp) c.args.self.now in
    sum_by_from_yields_List _ c.args.items.now c.map.result _ c.sum.ensures.ran (YieldsList-from_map _ (one p) (YieldsList-from_slice c.args.items.now cc) c.map.ensures.closure (λ x r q k. search (rules, tests)))
