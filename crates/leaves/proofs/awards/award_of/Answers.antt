-- The fold looks at the segments in turn, and so ends with the last that is met.
use Rattle.std.proofs.Common.{rules, tests}
use Rattle.std.proofs.lemmas.Iterator.{YieldsList-from_slice}
use Rattle.std.proofs.lemmas.Iterator.Consumers.{fold_from_yields_List}
use Rattle.rules.specs.Awards.{is_met}
use Rattle.leaves.proofs.Lasts.{after, award_folded}
use Rattle.leaves.proofs.awards.award_of.Goals as goal

pub returns : goal.returns
returns c =
    let p = is_met c.args.side c.args.day_ahead in
    let folded = fold_from_yields_List _ (after p) _ c.fold.result c.fold.ensures.ran (YieldsList-from_slice c.args.curve.now c.iter.ensures.rest) (λ a x b q k. search (rules, tests)) in
    let last = award_folded p c.args.curve.now in
    search rules
