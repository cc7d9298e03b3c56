-- Reports behind one another, and the number of a turn that is carried out. Assumes nothing.
use Prim.Native.Nat.{ℕ, ◌+◌, ◌≤◌}
use mathlib.Core.Path.{◌≡◌, refl}
use mathlib.Core.List.{List, ◌++◌, append_assoc}
use native.Mathlib.Omega.{arith}
use lib.ListN.{length, take, length-append}
use Rattle.std.proofs.lemmas.List.{take_at, length-take-le}
use Rattle.moves.specs.declared.Turn.{Turn}
use Rattle.moves.specs.declared.Turn.TheVariants.{Passed, Dealt}
use Rattle.moves.specs.Answer.{turned, values_of}
use Rattle.records.specs.declared.Record.{Record}
use Rattle.records.specs.Fields.{placed}
use Rattle.records.specs.Writing.{size_of, bytes_of}
use Rattle.records.proofs.Writing.{length_bytes_of}

-- what fills the buffer then ends with the report
pub filled_more : (buffer : List ℕ) (filled : ℕ) (report : Record) → filled ≤ length buffer
    → take (filled + size_of report) (placed buffer filled (bytes_of report)) ≡ take filled buffer ++ bytes_of report
unfolding placed
filled_more buffer filled report l =
    rw (← append_assoc)
    (take_at (take filled buffer ++ bytes_of report) _ (filled + size_of report)
    (simp length-append (omega (arith, length-take-le filled buffer l, length_bytes_of report))))

-- a turn that is carried out has no number
pub turned_zero : (t : Turn) → 0 ≡ (values_of (turned t)).refusal
unfolding values_of
turned_zero (Passed l v L c o) = refl
turned_zero (Dealt i n) = refl
