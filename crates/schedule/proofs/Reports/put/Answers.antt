-- `schedule::Reports::put` meets its contract. Assumes nothing.
use Rattle.std.proofs.Common.{arith}
use Rattle.schedule.proofs.Answered.{filled_more}
use Rattle.schedule.proofs.Reports.put.Goals as goal

pub returns : goal.returns
returns c =
    rw (← c.self.view_is, c.put_record.ensures, c.size_of.ensures)
    (filled_more c.self.inside.buffer c.self.inside.filled c.args.report (omega (arith, c.self.invariant, c.self.told)))
