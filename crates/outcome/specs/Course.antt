-- Where a schedule stands, and what one of its records gives (01, "Schedule bytes"). Definitions only. Assumes nothing.
use Rattle.std.specs.Prelude.{ℕ, List}
use Rattle.run.specs.declared.Run.{Run}
use Rattle.run.specs.Run.{fresh}

-- where a schedule stands: phase 0 before the open, 1 after it, 2 after the close; and the run
pub record Course : Type 0 where
  pub phase : ℕ
  pub run : Run

abbrev pub course : ℕ → Run → Course
course p x = record { phase = p; run = x }

-- before the open there is no run yet: that of a refused opening stands in
unfoldable pub at_start : Course
at_start = course 0 (fresh 0 0)

-- what a record gives: the refusal number, 0 for none, the bytes of its report, and the course after it, which counts only where
-- the record is not refused
pub record Step : Type 0 where
  pub refusal : ℕ
  pub report : List ℕ
  pub course : Course

abbrev pub step : ℕ → List ℕ → Course → Step
step n report x = record { refusal = n; report = report; course = x }
