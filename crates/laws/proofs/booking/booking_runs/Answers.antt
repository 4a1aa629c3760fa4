-- Proved in Book.
use Rattle.laws.proofs.Book.{booking_runs}
use Rattle.laws.proofs.booking.booking_runs.Goals as goal

pub returns : goal.returns
returns c = booking_runs
