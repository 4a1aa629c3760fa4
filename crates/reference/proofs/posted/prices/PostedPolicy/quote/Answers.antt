-- What the entry of a location has is what the table means there.
use Rattle.std.proofs.Common.{◌<◌, length, ap, ◌∙◌, w64, rules}
use Rattle.std.proofs.lemmas.Int.{to_z-of_z}
use Rattle.std.specs.Prelude.{ok_or}
use Rattle.market.specs.declared.fault.Cause.TheVariants.{Missing}
use Rattle.reference.specs.Prices.{fault}
use Rattle.reference.proofs.Table.{quoted}
use Rattle.reference.proofs.posted.prices.PostedPolicy.quote.Goals as goal

pub returns-clause-answers_by_meaning : goal.returns-clause-answers_by_meaning
returns-clause-answers_by_meaning c =
    let l = to_z-of_z w64 c.args.location c.ranges.location in
    let among = simp l at c.in-Some.ensures in
    let within : c.in-Some.i < length c.args.self.now.entries = search rules in
    let priced = ap (λ o. ok_or o (fault Missing c.args.location)) c.price.ensures in
    simp l at c.ok_or.ensures.value ∙ priced ∙ quoted c.args.self.now.entries c.args.location c.in-Some.i c.index-self-i.result among.0 among.1 within c.args.side
