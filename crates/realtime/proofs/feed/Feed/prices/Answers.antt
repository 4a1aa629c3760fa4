-- The prices of a cell end where the list does, or before.
use Rattle.std.proofs.Common.{◌*◌, ap, arith}
use Rattle.realtime.proofs.Readings.{cell_ends}
use Rattle.realtime.proofs.feed.Feed.prices.Goals as goal

pub slice_bounds-result-end : goal.slice_bounds-result-end
slice_bounds-result-end g c =
    let feed = c.args.self.now in
    omega (arith, c.cells.ensures.value, ap (λ n. c.args.cell * n) c.from-per.ensures, c.from-per.ensures, cell_ends g.row.PER feed.list.now (feed.sizes.rows * feed.sizes.columns) c.args.cell feed.stands c.requires)
