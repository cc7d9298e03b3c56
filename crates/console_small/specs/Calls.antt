-- The small cabinet after a line that is a call, and the line that answers it. Definitions only. Assumes nothing.
use Rattle.std.specs.Prelude.{ℕ, ◌≡◌, List, [], ◌∷◌}
use Rattle.text.specs.Text.{letters}
use Rattle.run.specs.Run.{sound}
use Rattle.dials.specs.Dials.{open_dial}
use Rattle.dials.specs.Highest.{Top, Number, Nothing, Refused, highest_of}
use Rattle.small.specs.declared.Cabinet.{Cabinet}
use Rattle.small.specs.Small.{open_small, enter_small, turn_small, poll_small}
use Rattle.console_lines.specs.Words.{word_at, short_at}
use Rattle.console_answers.specs.Answers.{refusal_line, values_line}
use Rattle.console_run.specs.Calls.{moved_line, SetIs}
use Rattle.console_small.specs.Named.{dial_in, sum_in, named}

-- `dopen W C`
abbrev pub after_open : List ℕ → Cabinet
after_open line = (open_small (short_at line 1) (short_at line 2)).cabinet

abbrev pub open_line : List ℕ → List ℕ
open_line line = refusal_line (open_small (short_at line 1) (short_at line 2)).refusal

-- `denter T V`
abbrev pub after_enter : List ℕ → Cabinet → Cabinet
after_enter line x = (enter_small x (short_at line 1) (short_at line 2)).cabinet

abbrev pub enter_line : List ℕ → Cabinet → List ℕ
enter_line line x = refusal_line (enter_small x (short_at line 1) (short_at line 2)).refusal

-- `dturn T`
abbrev pub after_turn : List ℕ → Cabinet → Cabinet
after_turn line x = (turn_small x (short_at line 1)).cabinet

abbrev pub turn_line : List ℕ → Cabinet → List ℕ
turn_line line x = moved_line (turn_small x (short_at line 1)).answer

-- `poll E`: `R YIELD`
abbrev pub after_poll : List ℕ → Cabinet → Cabinet
after_poll line x = (poll_small x (short_at line 1)).cabinet

abbrev pub poll_line : List ℕ → Cabinet → List ℕ
poll_line line x =
    let p = poll_small x (short_at line 1) in
    values_line p.refusal (p.yielded ∷ [])

-- `dset W C ENTERED COUNTS TOGGLES PLACES DIALS`: the run inside is that of `set`, and the dials are those of the list
pub record SmallSetIs (line : List ℕ) (x : Cabinet) (before : List ℕ) (end : ℕ) (after : List ℕ) : Type 0 where
  pub run_set : SetIs line x.run.width x.run.construction x.run.board.entered (sound x.run) before end after
  pub dials_are : x.dials ≡ named dial_in open_dial (word_at line 7)

-- `highest W SUMS`: `0 NUMBER`, `0 none` or the refusal number
unfoldable pub top_line : Top → List ℕ
top_line (Number n) = values_line 0 (n ∷ [])
top_line Nothing = letters "0 none\n"
top_line (Refused n) = refusal_line n

abbrev pub highest_line : List ℕ → List ℕ
highest_line line = top_line (highest_of (short_at line 1) (named sum_in 0 (word_at line 2)))
