-- The run after a line that is a call, and the line that answers it. Definitions only. Assumes nothing.
use Rattle.std.specs.Prelude.{ℕ, ◌≡◌, Bool, cond, List, [], ◌∷◌, ◌++◌, take, replicate, Result}
use Rattle.std.specs.Result.{result_unwrap_or}
use Rattle.text.specs.Text.{letters, Puts}
use Rattle.text.specs.Numbers.{row}
use Rattle.order.specs.declared.Refusal.{Refusal}
use Rattle.order.specs.Order.{refused_by}
use Rattle.board.specs.declared.Board.{Board}
use Rattle.moves.specs.Answer.{Answer, Passed, Dealt, Refused}
use Rattle.run.specs.declared.Run.{Run}
use Rattle.run.specs.Run.{open_of, enter_of, turn_of}
use Rattle.gaps.specs.Gaps.{GapsIs}
use Rattle.console_lines.specs.Words.{short_at, long_at, room_at}
use Rattle.console_answers.specs.Answers.{refusal_line, numbers_line}

-- a call is answered: the run after it, and the line at the front of the text
pub record Answers {A : Type 0} (run got : A) (line before : List ℕ) (end : ℕ) (after : List ℕ) : Type 0 where
  pub run_is : got ≡ run
  pub puts : Puts line 0 before end after

-- `open W C`
abbrev pub after_open : List ℕ → Run
after_open line = (open_of (short_at line 1) (short_at line 2)).run

abbrev pub open_line : List ℕ → List ℕ
open_line line = refusal_line (open_of (short_at line 1) (short_at line 2)).refusal

-- `enter T V`
abbrev pub after_enter : List ℕ → Run → Run
after_enter line run = (enter_of run (short_at line 1) (short_at line 2)).run

abbrev pub enter_line : List ℕ → Run → List ℕ
enter_line line run = refusal_line (enter_of run (short_at line 1) (short_at line 2)).refusal

-- `turn T`: `0 passed LEVEL WIRE LAYER CELL OUTLET`, `0 dealt EXIT NUMBER` or the refusal number
abbrev pub after_turn : List ℕ → Run → Run
after_turn line run = (turn_of run (short_at line 1)).run

unfoldable pub move_line : List ℕ → List ℕ → List ℕ
move_line what values = what ++ (row values ++ letters "\n")

unfoldable pub moved_line : Answer → List ℕ
moved_line (Passed l v L c s) = move_line (letters "0 passed") (l ∷ v ∷ L ∷ c ∷ s ∷ [])
moved_line (Dealt i n) = move_line (letters "0 dealt") (i ∷ n ∷ [])
moved_line (Refused n) = refusal_line n

abbrev pub turn_line : List ℕ → Run → List ℕ
turn_line line run = moved_line (turn_of run (short_at line 1)).answer

-- `set W C ENTERED ..`: the record has these, whether it is sound or not; the answer says whether
pub record SetIs (line : List ℕ) (w k entered : ℕ) (good : Bool) (before : List ℕ) (end : ℕ) (after : List ℕ) : Type 0 where
  pub width_is : w ≡ short_at line 1
  pub kind_is : k ≡ short_at line 2
  pub entered_is : entered ≡ long_at line 3
  pub puts : Puts (cond good (letters "1\n") (letters "0\n")) 0 before end after

-- `gaps ROOM`: the numbers lent are the first of as many as the console has, each 4294967295
abbrev pub lent_numbers : ℕ → List ℕ
lent_numbers room = take room (replicate 65536 4294967295)

-- a call that fills them, by what it may answer and leave of the numbers before: its answer, and the numbers after it
pub record NumbersFilled (call : List ℕ → Result ℕ Refusal → List ℕ → Type 0) (line before : List ℕ) (end : ℕ) (after : List ℕ) : Type 0 where
  pub done : Result ℕ Refusal
  pub lent : List ℕ
  pub called : call (lent_numbers (room_at line 1)) done lent
  pub puts : Puts (numbers_line (refused_by done) (result_unwrap_or done 0 ∷ []) lent) 0 before end after

abbrev pub GapsAnswered : List ℕ → Bool → ℕ → Board → List ℕ → ℕ → List ℕ → Type 0
GapsAnswered line good w x = NumbersFilled (λ before r after. GapsIs good w x before after r) line
