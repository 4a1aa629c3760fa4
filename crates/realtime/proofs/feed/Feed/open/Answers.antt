-- A list that passed is read as its numbers stand.
use Rattle.std.proofs.Common.{sym}
use Rattle.realtime.proofs.Readings.{passed_stands, passed_priced, whole_reads}
use Rattle.realtime.proofs.feed.Feed.open.Goals as goal

pub invariant_of-result : goal.invariant_of-result
invariant_of-result g c =
    let passed = c.in_ok-sizes.ensures in
    record {
      stands = passed_stands g.row.PER c.args.list.now c.in_ok-sizes.sizes passed;
      priced = passed_priced g.row.PER c.args.list.now c.in_ok-sizes.sizes passed;
    }

pub returns-clause-reads_the_list : goal.returns-clause-reads_the_list
returns-clause-reads_the_list g c =
    let passed = c.in_ok-sizes.ensures in
    whole_reads g.row.PER c.args.list.now c.in_ok-sizes.sizes.rows c.in_ok-sizes.sizes.columns (sym passed.rows) (sym passed.columns) (c.in_ok-sizes.sizes, passed)
