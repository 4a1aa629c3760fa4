-- The prices of a cell are those that stand behind the marks, so their average is the one that the list means.
use Rattle.std.proofs.Common.{◌≡◌, ◌+◌, ◌*◌, List, ℤ, pos, ◌*ℤ◌, sym, ap, ◌∙◌, w64, SFits, rules}
use Rattle.std.proofs.lemmas.Int.{to_z-of_z}
use Rattle.lists.specs.Lists.{num}
use Rattle.realtime.specs.Feeds.{summed, weight, average}
use Rattle.realtime.proofs.Readings.{published_meaning}
use Rattle.realtime.proofs.Sums.{summed_part}
use Rattle.realtime.proofs.feed.reading.FeedSource.average.Goals as goal

pub returns-clause-answers_by_meaning : goal.returns-clause-answers_by_meaning
returns-clause-answers_by_meaning g c =
    let feed = c.args.self.now in
    let cells = feed.sizes.rows * feed.sizes.columns in
    let f : SFits w64 c.in_twelfths.result = search rules in
    let h : SFits w64 c.sum_of.result = search rules in
    let among = simp (to_z-of_z w64 c.args.location c.ranges.location, to_z-of_z w64 c.args.hour c.ranges.hour) at c.in-Some.ensures in
    let is : c.in_twelfths.result ≡ average g.row.PER feed.list.now (feed.sizes.rows * feed.sizes.columns) c.in-Some.cell =
    c.in_twelfths.ensures
    ∙ ap (λ (z : ℤ). pos (weight g.row.PER) *ℤ z) (
    to_z-of_z w64 c.sum_of.result h ∙ c.sum_of.ensures.value ∙ ap (summed (num c.prices.result.now)) c.prices.ensures.len
    ∙ ap (λ (ps : List ℤ). summed (num ps) g.row.PER) c.prices.ensures.value
    ∙ summed_part feed.list.now (2 + feed.sizes.rows * feed.sizes.columns + c.in-Some.cell * g.row.PER) g.row.PER
    ) in
    simp (to_z-of_z w64 c.in_twelfths.result f)
    (published_meaning g.row.PER feed.list.now feed.sizes.rows feed.sizes.columns c.args.location c.args.hour c.in-Some.cell c.in_twelfths.result among (sym c.is_published.ensures ∙ c.if-not-is_published.false) is)
