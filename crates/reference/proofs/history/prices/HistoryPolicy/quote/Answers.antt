-- What the hours of a location give is what the history means there.
use Rattle.std.proofs.Common.{◌∙◌, w64}
use Rattle.std.proofs.lemmas.Int.{to_z-of_z}
use Rattle.reference.proofs.Read.{history_quoted}
use Rattle.reference.proofs.history.prices.HistoryPolicy.quote.Goals as goal

pub returns-clause-answers_by_meaning : goal.returns-clause-answers_by_meaning
returns-clause-answers_by_meaning c =
    let h = c.args.self.now in
    let l = to_z-of_z w64 c.args.location c.ranges.location in
    let among = simp (l, c.from.ensures) at c.in-Some.ensures in
    simp l at c.ok_or.ensures.value
    ∙ history_quoted h.sizes.rows h.sizes.columns c.in-Some.index h.averages.now h.day_ahead.now c.args.location c.args.side among.0 among.1 among.2 h.few_hours h.averages_whole h.day_ahead_whole
    c.of_location-averages.result.now c.of_location-day_ahead.result.now c.of_location-averages.ensures c.of_location-day_ahead.ensures c.reference_price.result c.reference_price.ensures
