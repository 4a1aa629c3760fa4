-- The line of a fault is that of the answer which the fault is.
use Rattle.std.proofs.Common.{w64, SFits}
use Rattle.std.proofs.lemmas.Int.{to_z-of_z}
use Rattle.day.proofs.lines.average_line.Goals as goal

pub returns-in-Err : goal.returns-in-Err
returns-in-Err c =
    let l : SFits w64 c.args.location = c.ranges.location in
    let h : SFits w64 c.args.hour = c.ranges.hour in
    rw c.in-Err.is (simp to_z-of_z at c.format-in-Err.ensures.ok)
