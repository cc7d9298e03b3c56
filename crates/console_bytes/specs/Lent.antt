-- The bytes that the console lends to a call. Definitions only. Assumes nothing.
use Rattle.std.specs.Prelude.{ℕ, List, [], ◌∷◌, take, replicate, Result}
use Rattle.std.specs.Result.{result_unwrap_or}
use Rattle.text.specs.Text.{Puts}
use Rattle.order.specs.declared.Refusal.{Refusal}
use Rattle.order.specs.Order.{refused_by}
use Rattle.console_lines.specs.Words.{room_at}
use Rattle.console_answers.specs.Answers.{bytes_line}

-- bytes to fill: the first of as many as the console has, each aa
abbrev pub lent_bytes : ℕ → List ℕ
lent_bytes room = take room (replicate 65536 170)

-- A call that fills them, as many as word `at` says: its answer, and the bytes after it. `call` is what it may answer and leave of the
-- bytes before.
pub record BytesFilled (call : List ℕ → Result ℕ Refusal → List ℕ → Type 0) (at : ℕ) (line before : List ℕ) (end : ℕ) (after : List ℕ) : Type 0 where
  pub done : Result ℕ Refusal
  pub lent : List ℕ
  pub called : call (lent_bytes (room_at line at)) done lent
  pub puts : Puts (bytes_line (refused_by done) (result_unwrap_or done 0 ∷ []) lent) 0 before end after
