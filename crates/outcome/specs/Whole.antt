-- Running a schedule: the whole call (01, "Schedule bytes" and "Numbers of refusal"). Definitions only. Assumes nothing.
use Rattle.std.specs.Prelude.{ℕ, ◌≡◌, List, cond, length, ltb, leb, Result}
use Rattle.order.specs.Order.{over}
use Rattle.outcome.specs.Outcome.{Outcome, Accepted, Refused, outcome_by}
use Rattle.outcome.specs.declared.Accepted.{Accepted as AcceptedRun}
use Rattle.outcome.specs.declared.Stopped.{Stopped}
use Rattle.outcome.specs.Schedule.{Told, tell}

-- 16 first, then the faults of the records, last of all 17
unfoldable pub settle : Told → ℕ → Outcome
settle t room = settled t.outcome
  where
    settled : Outcome → Outcome
    settled (Accepted w c e b) = cond (leb b room) (Accepted w c e b) (Refused 17 0 0 0)
    settled (Refused k n at p) = Refused k n at p

unfoldable pub run_of : List ℕ → ℕ → Outcome
run_of s room = cond (ltb 65536 (length s)) (Refused 16 0 0 0) (settle (tell s) room)

-- the output after it: the reports in front where the schedule was accepted, else as it was
unfoldable pub after_run : Outcome → List ℕ → List ℕ → List ℕ
after_run (Accepted w c e b) reports out = over reports out
after_run (Refused k n at p) reports out = out

unfoldable pub output_of : List ℕ → List ℕ → List ℕ
output_of s out = after_run (run_of s (length out)) (tell s).reports out

-- the answer r of running a schedule, and the output out' after it
pub record Ran (s out : List ℕ) (r : Result AcceptedRun Stopped) (out' : List ℕ) : Type 0 where
  pub outcome : outcome_by r ≡ run_of s (length out)
  pub output : out' ≡ output_of s out

-- ---- the document's number and values for each outcome; what an outcome does not have is 0
pub record Values : Type 0 where
  pub refusal : ℕ
  pub record_number : ℕ
  pub offset : ℕ
  pub present : ℕ
  pub width : ℕ
  pub construction : ℕ
  pub entries : ℕ
  pub bytes : ℕ

unfoldable pub values_of : Outcome → Values
values_of (Accepted w c e b) = record { refusal = 0; record_number = 0; offset = 0; present = 0; width = w; construction = c; entries = e; bytes = b }
values_of (Refused k n at p) = record { refusal = k; record_number = n; offset = at; present = p; width = 0; construction = 0; entries = 0; bytes = 0 }
