-- `schedule::Stage::pass` meets its contract. The loop's invariant: the run is sound between the open and the close, the bytes before
-- the offset pay for the reports done, and what is told from this record on is what the whole schedule tells. The measure is the bytes
-- left. Assumes nothing.
use Prim.Native.Nat.{◌-◌}
use lib.ListN.{length}
use Rattle.schedule.specs.Serving.{course_in}
use Rattle.schedule.proofs.Loop.{Going}
use Rattle.schedule.proofs.Stage.pass.Given as goal

abbrev pub invariant-loop-read : goal.invariant-loop-read
invariant-loop-read l = Going l.bytes (course_in l.self) l.self.reports l.at l.record

abbrev pub decreases-loop-read : goal.decreases-loop-read
decreases-loop-read l = length l.bytes - l.at
