-- A list passes with one pair of sizes, those that the history has.
use Rattle.std.proofs.Common.{◌∙◌}
use Rattle.reference.proofs.Read.{same_sizes}
use Rattle.reference.proofs.history.History.over.Goals as goal

pub returns : goal.returns
returns c =
    let (sizes, passes, holds) = c.in-Ok.ensures in
    record {
      passed = λ s p.
          let same = same_sizes c.args.list.now sizes s passes p in
          record { locations = holds.locations ∙ same.0; hours = holds.hours ∙ same.1; prices = holds.prices; averages = holds.averages };
      not_passed = λ none. absurd (none sizes passes);
    }
