-- Calls. In order: a history with one more; those of a schedule from a record on. Assumes nothing.
use Prim.Native.Nat.{ℕ, suc, ◌+◌, ◌≤◌}
use mathlib.Core.Path.{◌≡◌, ap}
use mathlib.Core.List.{List, [], ◌∷◌, ◌++◌, append_assoc, append-nil}
use lib.ListN.{length}
use Rattle.run.specs.declared.Run.{Run}
use Rattle.run.specs.Run.{open_of}
use Rattle.records.specs.declared.Record.{Record}
use Rattle.records.specs.Reading.{Got}
use Rattle.outcome.specs.Schedule.{record_at}
use Rattle.outcome.proofs.Told.{record_none}
use Rattle.promise.specs.History.{Call, Deal, After, call_of, calls_of, calls_by, history}
use Rattle.filed.specs.Calls.{call_in, calls_read, calls_from}

-- what comes of a call made after others
abbrev then : After Run → Call → After Run
then y call =
    let z = call_of y.run call in
    record { run = z.run; entries = y.entries ++ z.entries; deals = y.deals ++ z.deals }

-- entries and numbers dealt before
abbrev before : List ℕ → List Deal → After Run → After Run
before es l y = record { run = y.run; entries = es ++ y.entries; deals = l ++ y.deals }

calls_more : (calls : List Call) (call : Call) (x : Run) → calls_of x (calls ++ (call ∷ [])) ≡ then (calls_of x calls) call
unfolding calls_of calls_by
calls_more [] call x = simp append-nil
calls_more (first ∷ rest) call x = simp append_assoc (ap (before (call_of x first).entries (call_of x first).deals) (calls_more rest call (call_of x first).run))

pub history_more : (w c : ℕ) (calls : List Call) (call : Call) → history w c (calls ++ (call ∷ [])) ≡ then (history w c calls) call
unfolding history
history_more w c calls call = calls_more calls call (open_of w c).run

-- ---- the calls of a schedule
module _ (more : ℕ) (s : List ℕ) (at : ℕ) where
  pub calls_got : (r : Record) (len : ℕ) → record_at s at ≡ Got r len
      → calls_from (suc more) s at ≡ call_in r ++ calls_from more s (at + len)
  unfolding calls_from calls_read
  calls_got r len e = rw e

  pub calls_none : length s ≤ at → calls_from (suc more) s at ≡ []
  unfolding calls_from calls_read
  calls_none l = rw (← record_none s at l)
