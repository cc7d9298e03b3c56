-- Numbers that a call filled: of what was read, called and put, it gives what the contract says. A part of a buffer that is lent from
-- 0 on has its end less 0 for a length. Assumes nothing.
use Prim.Native.Nat.{ℕ, ◌-◌}
use mathlib.Core.Path.{◌≡◌}
use mathlib.Core.List.{List, [], ◌∷◌}
use native.Mathlib.Nat.{sub-zero}
use lib.ListN.{take, replicate}
use Rattle.std.specs.Prelude.{Result}
use Rattle.std.specs.Result.{result_unwrap_or}
use Rattle.text.specs.Text.{Puts}
use Rattle.order.specs.declared.Refusal.{Refusal}
use Rattle.order.specs.Order.{refused_by}
use Rattle.console_lines.specs.Words.{WordIs}
use Rattle.console_answers.specs.Answers.{numbers_line}
use Rattle.console_run.specs.Calls.{NumbersFilled}

module _ {line before after : List ℕ} {end : ℕ} (call : List ℕ → Result ℕ Refusal → List ℕ → Type 0) where
  pub numbers_filled : {buffer lent : List ℕ} {room : ℕ} {done : Result ℕ Refusal} → WordIs line 1 65536 room → buffer ≡ replicate 65536 4294967295
      → call (take (room - 0) buffer) done lent → Puts (numbers_line (refused_by done) (result_unwrap_or done 0 ∷ []) lent) 0 before end after
      → NumbersFilled call line before end after
  numbers_filled {lent = lent} {done = done} room full g p =
      record { done = done; lent = lent; called = rw (sub-zero, full, room.is) at g; puts = p }
