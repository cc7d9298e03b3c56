-- What a schedule's records give, on its bytes (01, "Schedule bytes" and "Numbers of refusal"). Definitions only. Assumes nothing.
use Rattle.std.specs.Prelude.{ℕ, zero, suc, ◌+◌, List, [], ◌++◌, false, cond, length, drop, ltb, eqb}
use Rattle.records.specs.declared.Record.{Record}
use Rattle.records.specs.Reading.{Read, Got, Refused as Unread, read_of}
use Rattle.outcome.specs.Outcome.{Outcome, Accepted, Refused}
use Rattle.outcome.specs.Course.{Course, at_start}
use Rattle.outcome.specs.Step.{step_of}

-- what a schedule gives: the outcome, and the bytes of its reports
pub record Told : Type 0 where
  pub outcome : Outcome
  pub reports : List ℕ

-- the number of the refusal, the record's number and offset, and how many bytes of it are present
abbrev pub stopped : ℕ → ℕ → ℕ → ℕ → Told
stopped k n at present = record { outcome = Refused k n at present; reports = [] }

abbrev pub accepted : Course → List ℕ → Told
accepted x done =
    record { outcome = Accepted x.run.width x.run.construction x.run.board.entered (length done); reports = done }

-- the record at an offset; where no byte is left, 14. Kind 5 is unknown here.
unfoldable pub record_at : List ℕ → ℕ → Read
record_at s at = cond (ltb at (length s)) (read_of false (drop at s)) (Unread 14 0)

unfoldable pub on_read : Read → (Record → ℕ → Told) → (ℕ → ℕ → Told) → Told
on_read (Got r len) f g = f r len
on_read (Unread k present) f g = g k present

-- From record n at offset `at`, with the course x and the reports done so far. After the close no byte may follow, before it
-- one must: 14. A record that reads and is carried out is passed; the first that is not ends the schedule. The first argument
-- bounds the records still to come; there are at most as many as bytes.
unfoldable pub tell_from : ℕ → List ℕ → Course → ℕ → ℕ → List ℕ → Told
tell_from zero s x at n done = stopped 14 n at 0
tell_from (suc more) s x at n done =
    cond (eqb x.phase 2)
    (cond (ltb at (length s)) (stopped 14 n at 0) (accepted x done))
    (on_read (record_at s at)
    (λ r len.
    let y = step_of x r in
    cond (eqb y.refusal 0)
    (tell_from more s y.course (at + len) (n + 1) (done ++ y.report))
    (stopped y.refusal n at 0))
    (λ k present. stopped k n at present))

unfoldable pub tell : List ℕ → Told
tell s = tell_from (suc (length s)) s at_start 0 0 []
