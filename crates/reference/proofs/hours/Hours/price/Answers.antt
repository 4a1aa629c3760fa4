-- Among the hours' spreads one has the percentile's rank, and all that have it have one value.
use Rattle.std.proofs.Common.{length, sym, ◌∙◌, w64, SFits, rules}
use Rattle.std.proofs.lemmas.Int.{to_z-of_z}
use Rattle.reference.specs.Percentile.{percentile_rank}
use Rattle.reference.proofs.Ranked.{never_none, one_value}
use Rattle.reference.proofs.hours.Hours.price.Goals as goal

pub returns-clause-of_its_rank : goal.returns-clause-of_its_rank
returns-clause-of_its_rank c =
    let f : SFits w64 c.in-Some.spread.value = search rules in
    record {
      rank = percentile_rank (length c.args.self.now.averages.now);
      percentile = c.in-Some.ensures.least;
      spread = c.in-Some.spread;
      picked = c.in-Some.ensures.picked;
      priced = sym (to_z-of_z w64 c.in-Some.spread.value f);
    }

pub returns-clause-value : goal.returns-clause-value
returns-clause-value c =
    let hours = c.args.self.now in
    let f : SFits w64 c.in-Some.spread.value = search rules in
    to_z-of_z w64 c.in-Some.spread.value f
    ∙ one_value c.args.side hours.averages.now hours.day_ahead.now (length hours.averages.now) hours.some c.in-Some.spread c.in-Some.ensures.picked

pub unreachable-requires : goal.unreachable-requires
unreachable-requires c =
    let hours = c.args.self.now in
    never_none c.args.side hours.averages.now hours.day_ahead.now (length hours.averages.now) hours.some c.in-None.ensures.picked
