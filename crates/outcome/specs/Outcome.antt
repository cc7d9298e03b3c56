-- What a schedule comes to, in the document's numbers (01, "Schedule bytes"). Definitions only. Assumes nothing.
use Rattle.std.specs.Prelude.{ℕ, Result, Ok, Err}
use Rattle.order.specs.Order.{number_of}
use Rattle.outcome.specs.declared.Accepted.{Accepted as AcceptedRun}
use Rattle.outcome.specs.declared.Stopped.{Stopped}

-- accepted: width, construction, entries, and the bytes of the reports; refused: the number of the refusal, the record's number
-- from 0 and its offset, and how many bytes of it are present where it is cut, else 0
pub data Outcome : Type 0 where
  Accepted : ℕ → ℕ → ℕ → ℕ → Outcome
  Refused : ℕ → ℕ → ℕ → ℕ → Outcome

-- that of the code's answer
abbrev pub outcome_by : Result AcceptedRun Stopped → Outcome
outcome_by (Ok a) = Accepted a.width a.construction a.entries a.bytes
outcome_by (Err e) = Refused (number_of e.refusal) e.record e.offset e.present
