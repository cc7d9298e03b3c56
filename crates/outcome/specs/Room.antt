-- The output room that a schedule wants (01, "Schedule bytes" and "Numbers of refusal"). Definitions only. Assumes nothing.
use Rattle.std.specs.Prelude.{ℕ, ◌≤◌, ◌≡◌, List, length}
use Rattle.outcome.specs.Schedule.{tell}
use Rattle.outcome.specs.Whole.{run_of, values_of}

pub record Room : Type 0 where
  -- the reports are never longer than the schedule: each has 12 bytes, and comes of an enter of 8 and a turn of 6
  pub within : (s : List ℕ) → length (tell s).reports ≤ length s
  -- so with 65,536 bytes, the most that a schedule has, 17 never comes up
  pub never_17 : (s : List ℕ) (room : ℕ) → 65536 ≤ room → (values_of (run_of s room)).refusal ≡ 17 → ⊥
