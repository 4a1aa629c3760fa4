-- Sizes of nothing are 0.
use Rattle.std.proofs.Common.{◌≡◌, ◌*◌, ap, arith, rules}
use Rattle.std.proofs.lemmas.Int.{ints}
use Rattle.reference.proofs.history.History.nothing.Goals as goal

pub invariant_of-result : goal.invariant_of-result
invariant_of-result c =
    let rows : c.default.result.rows ≡ 0 = search rules in
    let columns : c.default.result.columns ≡ 0 = search rules in
    let cells = ap (λ n. n * c.default.result.columns) rows in
    record {
      few_locations = omega arith;
      few_hours = omega arith;
      day_ahead_whole = omega (arith, cells);
      averages_whole = omega (arith, cells);
      day_ahead_bounded = λ k. (omega (arith, ints), omega (arith, ints));
      averages_bounded = λ k. (omega (arith, ints), omega (arith, ints));
    }
