-- The phases of a schedule, in the document's numbers. Definitions only. Assumes nothing.
use Rattle.std.specs.Prelude.{ℕ}
use Rattle.schedule.specs.declared.Phase.{Phase}
use Rattle.schedule.specs.declared.Phase.TheVariants.{Before, Running, Closed}

-- 0 before the open, 1 after it, 2 after the close
abbrev pub phase_of : Phase → ℕ
phase_of Before = 0
phase_of Running = 1
phase_of Closed = 2
