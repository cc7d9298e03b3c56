-- Laws of the answers to the calls on bytes: of what was read, called and put, each gives what its contract says. A part of a buffer
-- that is lent from 0 on has its end less 0 for a length. Assumes nothing.
use Prim.Native.Nat.{ℕ, ◌-◌}
use mathlib.Core.Path.{◌≡◌}
use mathlib.Core.List.{List, [], ◌∷◌}
use native.Mathlib.Nat.{sub-zero}
use lib.ListN.{take, replicate}
use Rattle.std.specs.Prelude.{Result}
use Rattle.std.specs.Result.{result_unwrap_or}
use Rattle.text.specs.Text.{Puts}
use Rattle.order.specs.declared.Refusal.{Refusal}
use Rattle.order.specs.Order.{refused_by}
use Rattle.outcome.specs.declared.Accepted.{Accepted}
use Rattle.outcome.specs.declared.Stopped.{Stopped}
use Rattle.outcome.specs.Outcome.{outcome_by}
use Rattle.outcome.specs.Whole.{Ran}
use Rattle.console_lines.specs.Hex.{HexPut}
use Rattle.console_lines.specs.Words.{WordIs, word_at}
use Rattle.console_answers.specs.Answers.{bytes_line}
use Rattle.console_bytes.specs.Lent.{BytesFilled}
use Rattle.console_bytes.specs.Records.{run_line, RunAnswered}

module _ {line before after : List ℕ} {end : ℕ} where
  pub bytes_filled : (call : List ℕ → Result ℕ Refusal → List ℕ → Type 0) {buffer lent : List ℕ} {at room : ℕ} {done : Result ℕ Refusal} → WordIs line at 65536 room
      → buffer ≡ replicate 65536 170 → call (take (room - 0) buffer) done lent → Puts (bytes_line (refused_by done) (result_unwrap_or done 0 ∷ []) lent) 0 before end after
      → BytesFilled call at line before end after
  bytes_filled call {lent = lent} {done = done} room full g p =
      record { done = done; lent = lent; called = rw (sub-zero, full, room.is) at g; puts = p }

  pub run_answered : {word bytes buffer lent : List ℕ} {count room : ℕ} {outcome : Result Accepted Stopped} → word ≡ word_at line 2 → HexPut word bytes count
      → WordIs line 1 65536 room → buffer ≡ replicate 65536 170 → Ran (take (count - 0) bytes) (take (room - 0) buffer) outcome lent
      → Puts (run_line (outcome_by outcome) lent) 0 before end after → RunAnswered line before end after
  run_answered {bytes = bytes} {lent = lent} {count = count} {outcome = outcome} is spelt room full ran p =
      record {
        bytes = bytes;
        count = count;
        outcome = outcome;
        lent = lent;
        spelt = rw is at spelt;
        called = rw (sub-zero count, sub-zero, full, room.is) at ran;
        puts = p;
      }
