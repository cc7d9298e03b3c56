-- The answer to the call on a design. Definitions only. Assumes nothing.
use Rattle.std.specs.Prelude.{ℕ, List, [], ◌∷◌, take}
use Rattle.text.specs.Text.{Puts}
use Rattle.panels.specs.Answers.{Answer, DesignRead}
use Rattle.console_lines.specs.Hex.{HexPut}
use Rattle.console_lines.specs.Words.{word_at, room_at}
use Rattle.console_answers.specs.Answers.{bytes_line}
use Rattle.console_bytes.specs.Lent.{lent_bytes}

-- `R OFFSET PRESENT W D N HEX`
unfoldable pub panel_line : Answer → List ℕ → List ℕ
panel_line x lent = bytes_line x.refusal (x.offset ∷ x.present ∷ x.width ∷ x.depth ∷ x.filled ∷ []) lent

-- `panel ROOM HEX`: what reading the bytes that the word spells answers, and the lent bytes after it
pub record PanelAnswered (line before : List ℕ) (end : ℕ) (after : List ℕ) : Type 0 where
  pub bytes : List ℕ
  pub count : ℕ
  pub answer : Answer
  pub lent : List ℕ
  pub spelt : HexPut (word_at line 2) bytes count
  pub called : DesignRead (take count bytes) (lent_bytes (room_at line 1)) lent answer
  pub puts : Puts (panel_line answer lent) 0 before end after
