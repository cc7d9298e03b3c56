-- The answers to the calls on records and schedules. Definitions only. Assumes nothing.
use Rattle.std.specs.Prelude.{ℕ, true, List, [], ◌∷◌, take, Result}
use Rattle.text.specs.Text.{Puts}
use Rattle.records.specs.declared.Record.{Record}
use Rattle.records.specs.declared.Record.TheVariants.{Open, Enter, Turn, Close, Number}
use Rattle.records.specs.Reading.{Read, Got, Refused as NotRead, read_of}
use Rattle.outcome.specs.declared.Accepted.{Accepted as AcceptedRun}
use Rattle.outcome.specs.declared.Stopped.{Stopped}
use Rattle.outcome.specs.Outcome.{Outcome, Accepted, Refused, outcome_by}
use Rattle.outcome.specs.Whole.{Ran}
use Rattle.console_lines.specs.Hex.{HexPut}
use Rattle.console_lines.specs.Words.{word_at, room_at}
use Rattle.console_answers.specs.Answers.{values_line, bytes_line}
use Rattle.console_bytes.specs.Lent.{lent_bytes}

-- a record that was read: kind, length, fields
unfoldable pub shown_of : ℕ → Record → List ℕ
shown_of size (Open w c) = 1 ∷ size ∷ w ∷ c ∷ []
shown_of size (Enter t v) = 2 ∷ size ∷ t ∷ v ∷ []
shown_of size (Turn t) = 3 ∷ size ∷ t ∷ []
shown_of size (Close e) = 4 ∷ size ∷ e ∷ []
shown_of size (Number t v n) = 5 ∷ size ∷ t ∷ v ∷ n ∷ []

-- `0 KIND LENGTH FIELD ..`, or `R PRESENT`
unfoldable pub read_line : Read → List ℕ
read_line (Got item size) = values_line 0 (shown_of size item)
read_line (NotRead number present) = values_line number (present ∷ [])

-- `read HEX`: of the bytes that the word spells
pub record ReadAnswered (line before : List ℕ) (end : ℕ) (after : List ℕ) : Type 0 where
  pub bytes : List ℕ
  pub count : ℕ
  pub spelt : HexPut (word_at line 1) bytes count
  pub puts : Puts (read_line (read_of true (take count bytes))) 0 before end after

-- `R RECORD OFFSET PRESENT N HEX`
unfoldable pub run_line : Outcome → List ℕ → List ℕ
run_line (Accepted w c e b) lent = bytes_line 0 (0 ∷ 0 ∷ 0 ∷ b ∷ []) lent
run_line (Refused number n at present) lent = bytes_line number (n ∷ at ∷ present ∷ 0 ∷ []) lent

-- `run ROOM HEX`: the outcome for the bytes that the word spells, and the lent bytes after it
pub record RunAnswered (line before : List ℕ) (end : ℕ) (after : List ℕ) : Type 0 where
  pub bytes : List ℕ
  pub count : ℕ
  pub outcome : Result AcceptedRun Stopped
  pub lent : List ℕ
  pub spelt : HexPut (word_at line 2) bytes count
  pub called : Ran (take count bytes) (lent_bytes (room_at line 1)) outcome lent
  pub puts : Puts (run_line (outcome_by outcome) lent) 0 before end after
