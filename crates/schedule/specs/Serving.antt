-- What carrying out one record asks and leaves: where the schedule stands goes where the record's step takes it. Definitions only.
-- Assumes nothing.
use Rattle.std.specs.Prelude.{◌+◌, ◌≤◌, ◌≡◌, ◌++◌, length, true, ⊤, Result, OnOk}
use Rattle.order.specs.declared.Refusal.{Refusal}
use Rattle.order.specs.Order.{refused_by}
use Rattle.run.specs.Run.{sound}
use Rattle.records.specs.declared.Record.{Record}
use Rattle.outcome.specs.Course.{Course, course}
use Rattle.outcome.specs.Step.{step_of}
use Rattle.schedule.specs.declared.Stage.{Stage}
use Rattle.schedule.specs.Phases.{phase_of}

-- where a schedule stands: its phase, and the run that is wired up
abbrev pub course_in : Stage → Course
course_in g = course (phase_of g.phase) g.wired.run

-- what a record may count on: from the open to the close the run is sound, and there is room for the record's report behind those done
pub record Servable (g : Stage) (item : Record) : Type 0 where
  pub underway : phase_of g.phase ≡ 1 → sound g.wired.run ≡ true
  pub room : length g.reports + length (step_of (course_in g) item).report ≤ 65536

-- the answer r, and where it is carried out, the step's course, and its report behind those done
pub record Serves (g : Stage) (item : Record) (r : Result ⊤ Refusal) (g' : Stage) : Type 0 where
  pub number : refused_by r ≡ (step_of (course_in g) item).refusal
  pub course : OnOk r (course_in g' ≡ (step_of (course_in g) item).course)
  pub reports : OnOk r (g'.reports ≡ g.reports ++ (step_of (course_in g) item).report)
