-- Demand 3, on files: an accepted schedule is the history of its own enters and turns, and its reports are the numbers dealt in it
-- (01, "Schedule bytes"). The statement only; the proof is `filed_schedules` of proofs/Filed. Assumes nothing.
use Rattle.std.specs.Prelude.{ℕ, ◌*◌, ◌<◌, ◌≤◌, ◌≡◌, List, [], ◌∷◌, ◌++◌, length, take}
use Rattle.network.specs.Widths.{open_no}
use Rattle.board.specs.Sound.{inside_sum}
use Rattle.records.specs.declared.Record.TheVariants.{Number}
use Rattle.records.specs.Writing.{bytes_of}
use Rattle.outcome.specs.Schedule.{tell}
use Rattle.outcome.specs.Whole.{run_of, output_of, Values, values_of}
use Rattle.promise.specs.History.{Call, Deal, history, times}
use Rattle.filed.specs.Calls.{calls_in}

-- the kind 5 records of the numbers dealt, in the order of dealing
unfoldable pub reports_of : List Deal → List ℕ
reports_of [] = []
reports_of (d ∷ rest) = bytes_of (Number d.token d.exit d.number) ++ reports_of rest

-- The calls of a schedule, the reports that it gives, and the values of its outcome. The history is that of the calls from the
-- opening of the outcome's width and construction.
pub record Filed (calls : List Call) (reports : List ℕ) (a : Values) : Type 0 where
  pub allowed : open_no a.width a.construction ≡ 0
  -- after it none is inside, and as many have entered as the outcome says
  pub rest : inside_sum (history a.width a.construction calls).run.board ≡ 0
  pub entered : (history a.width a.construction calls).run.board.entered ≡ a.entries
  -- the bytes are the reports of the numbers dealt
  pub reported : reports ≡ reports_of (history a.width a.construction calls).deals
  -- each number below the entries is dealt once, and no other
  pub each_once : (v : ℕ) → v < a.entries → times v (history a.width a.construction calls).deals ≡ 1
  pub no_other : (v : ℕ) → a.entries ≤ v → times v (history a.width a.construction calls).deals ≡ 0
  -- 12 bytes for each entry
  pub size : a.bytes ≡ 12 * a.entries

pub record FiledSchedules : Type 0 where
  -- of every schedule that is not refused
  pub told : (s : List ℕ) → (values_of (tell s).outcome).refusal ≡ 0
      → Filed (calls_in s) (tell s).reports (values_of (tell s).outcome)
  -- and of the bytes that running it fills of the output
  pub written : (s out : List ℕ) → (values_of (run_of s (length out))).refusal ≡ 0
      → Filed (calls_in s) (take (values_of (run_of s (length out))).bytes (output_of s out)) (values_of (run_of s (length out)))
