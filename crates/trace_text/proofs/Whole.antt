-- Laws of the whole trace. In order: the most bytes of a text; the text of what was run. Assumes nothing.
use Prim.Native.Nat.{ℕ, ◌*◌, ◌^◌, ◌≤◌, ◌<◌}
use mathlib.Core.Path.{◌≡◌, refl}
use mathlib.Core.List.{List}
use native.Mathlib.Omega.{arith}
use lib.ListN.{length, length-append}
use Rattle.outcome.specs.Outcome.{Outcome, Accepted, Refused}
use Rattle.outcome.specs.Course.{at_start}
use Rattle.outcome.specs.Whole.{run_of, Ran}
use Rattle.outcome.specs.declared.Accepted.{Accepted as AcceptedRun}
use Rattle.outcome.specs.declared.Stopped.{Stopped}
use Rattle.order.specs.Order.{number_of}
use Rattle.std.proofs.Common.{Result, Ok, Err}
use Rattle.text.specs.Text.{Puts}
use Rattle.listing_text.specs.Lines.{refused_line}
use Rattle.listing_text.proofs.Told.{run_short}
use Rattle.listing_text.proofs.Whole.{length_network, length_rest, length_refused, accepted_as, refused_as}
use Rattle.trace_text.specs.Lines.{turn_lines}
use Rattle.trace_text.specs.Trace.{accepted_text, text_of, trace_of}
use Rattle.trace_text.proofs.Lines.{length_lines}

-- ---- the most bytes
length_turns : (s : List ℕ) → length (turn_lines s) ≤ 22 * length s
unfolding turn_lines
length_turns s = omega (arith, length_lines (length s) s at_start.run 0 (omega arith))

text_most : (o : Outcome) (s : List ℕ) → ((w c e b : ℕ) → o ≡ Accepted w c e b → length s ≤ 65536) → length (text_of o s) ≤ 1500000
unfolding text_of accepted_text
text_most (Accepted w c e b) s few =
    let short = few w c e b refl in
    simp length-append (omega (arith, length_turns s, length_network w c, length_rest e))
text_most (Refused k n at present) s few = omega (arith, length_refused k n at)

pub trace_most : (s : List ℕ) → length (trace_of s) ≤ 1500000
unfolding trace_of
trace_most s = text_most (run_of s 65536) s (λ w c e b h. run_short s 65536 w c e b h)

pub trace_few : (s : List ℕ) → length (trace_of s) < 2 ^ 64
trace_few s = omega (arith, trace_most s)

-- ---- the text of what was run into a buffer of the program's own
module _ {s buffer reports : List ℕ} {r : Result AcceptedRun Stopped} (room : length buffer ≡ 65536) (ran : Ran s buffer r reports) where
  pub accepted_puts : {a : AcceptedRun} → r ≡ Ok a → {before after : List ℕ} {next : ℕ} → Puts (accepted_text a.width a.construction a.entries s) 0 before next after
      → Puts (trace_of s) 0 before next after
  unfolding trace_of text_of
  accepted_puts is p = rw (accepted_as room ran is) p

  pub refused_puts : {e : Stopped} → r ≡ Err e → {before after : List ℕ} {next : ℕ} → Puts (refused_line (number_of e.refusal) e.record e.offset) 0 before next after
      → Puts (trace_of s) 0 before next after
  unfolding trace_of text_of
  refused_puts is p = rw (refused_as room ran is) p
