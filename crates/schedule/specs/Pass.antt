-- What one pass over a schedule leaves: its outcome, and where it is accepted its reports. Definitions only. Assumes nothing.
use Rattle.std.specs.Prelude.{ℕ, ◌≤◌, ◌≡◌, List, [], length, Result, OnOk, IfOk}
use Rattle.order.specs.declared.Refusal.{Refusal}
use Rattle.outcome.specs.declared.Accepted.{Accepted}
use Rattle.outcome.specs.declared.Stopped.{Stopped}
use Rattle.outcome.specs.Course.{at_start}
use Rattle.outcome.specs.Outcome.{outcome_by}
use Rattle.outcome.specs.Schedule.{tell}
use Rattle.schedule.specs.declared.Stage.{Stage}
use Rattle.schedule.specs.Serving.{course_in}

-- a refusal of a record that is not cut, by its number from 0
abbrev pub stopped : Refusal → ℕ → ℕ → Stopped
stopped e n at = record { refusal = e; «record» = n; offset = at; present = 0 }

-- a pass begins before the open, with no report
pub record Passable (s : List ℕ) (g : Stage) : Type 0 where
  pub short : length s ≤ 65536
  pub start : course_in g ≡ at_start
  pub none : g.reports ≡ []

pub record PassIs (s : List ℕ) (r : Result Accepted Stopped) (done : List ℕ) : Type 0 where
  pub outcome : outcome_by r ≡ (tell s).outcome
  pub reports : OnOk r (done ≡ (tell s).reports)
  pub bytes : IfOk r (λ a. a.bytes ≡ length done)
