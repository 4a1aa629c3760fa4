-- The two blocks of a list that passed are as long as its sizes say, and within their bounds.
use Rattle.std.proofs.Common.{length, take, drop, sym, ap, ◌∙◌, subst}
use Rattle.reference.specs.Years.{EachPrice, EachAverage}
use Rattle.reference.proofs.Read.{few_rows, few_columns, all_cells, averages_part, prices_whole, averages_whole, prices_bounded, averages_bounded}
use Rattle.reference.proofs.history.History.read.Goals as goal

pub invariant_of-result : goal.invariant_of-result
invariant_of-result c =
    let xs = c.args.list.now in
    let s = c.args.sizes in
    let n = c.cells.ensures.value in
    let front = c.split_at-2.ensures.front ∙ ap (take c.cells.result) c.split_at.ensures.back in
    let back = c.split_at-2.ensures.back ∙ ap (drop c.cells.result) c.split_at.ensures.back in
    record {
      few_locations = few_rows xs s c.requires;
      few_hours = few_columns xs s c.requires;
      day_ahead_whole = ap length front ∙ prices_whole xs s c.requires c.cells.result n;
      averages_whole = ap length back ∙ averages_whole xs s c.requires c.cells.result n;
      day_ahead_bounded = subst EachPrice (sym (front ∙ ap (λ m. take m (drop 2 xs)) (n ∙ all_cells xs s c.requires))) (prices_bounded xs s c.requires);
      averages_bounded = subst EachAverage (sym (back ∙ averages_part xs s c.requires c.cells.result n)) (averages_bounded xs s c.requires);
    }
