-- A list that passed is read as its numbers stand, and of any other all is outside.
use Rattle.std.proofs.Common.{refl}
use Rattle.realtime.proofs.Readings.{Either, either, either_stands, either_priced, either_opened, either_reads}
use Rattle.realtime.proofs.feed.Feed.over.Goals as goal
use Rattle.realtime.proofs.feed.Feed.over.Goals.{After-unwrap_or-sizes}

sizes : (g : _) (c : After-unwrap_or-sizes g) → Either g.row.PER c.args.list.now c.unwrap_or-sizes.result
sizes g c = either g.row.PER c.args.list.now c.unwrap_or-sizes.result _ (refl, refl) c.check.result c.check.ensures c.unwrap_or-sizes.ensures

pub invariant_of-result : goal.invariant_of-result
invariant_of-result g c =
    let either = sizes g c in
    record {
      stands = either_stands g.row.PER c.args.list.now c.unwrap_or-sizes.result either;
      priced = either_priced g.row.PER c.args.list.now c.unwrap_or-sizes.result either;
    }

pub returns : goal.returns
returns g c =
    let either = sizes g (goal.at.returns g c).After-unwrap_or-sizes in
    record {
      keeps_the_list = refl;
      takes_the_sizes = either_opened g.row.PER c.args.list.now c.unwrap_or-sizes.result either;
      reads_the_list = either_reads g.row.PER c.args.list.now c.unwrap_or-sizes.result either;
    }
