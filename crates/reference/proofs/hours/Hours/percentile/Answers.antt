-- The list that is picked from is the hours' spreads, so that the pick is theirs.
use Rattle.std.proofs.Common.{ℕ, List, length, ap, ◌∙◌, subst}
use Rattle.rank.specs.declared.spread.DatedSpread.{DatedSpread}
use Rattle.rank.specs.Orders.{lower_spread}
use Rattle.rank.specs.Ranks.{Picked}
use Rattle.reference.specs.Percentile.{percentile_rank}
use Rattle.reference.specs.Spreads.{spreads_to}
use Rattle.reference.proofs.hours.Hours.percentile.Goals as goal

pub returns-clause-picked : goal.returns-clause-picked
returns-clause-picked c =
    let hours = c.args.self.now in
    let theirs = c.write_spreads.ensures ∙ ap (spreads_to c.args.side hours.averages.now hours.day_ahead.now) c.requires in
    let rank = c.percentile_rank.ensures.value in
    subst (λ (xs : List DatedSpread). Picked lower_spread xs (percentile_rank (length hours.averages.now)) c.pick.result) theirs
    (subst (λ (k : ℕ). Picked lower_spread c.write_spreads.new.spreads k c.pick.result) rank c.pick.ensures)
