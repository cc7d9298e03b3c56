-- The answers to the calls on sheets. Definitions only. Assumes nothing.
use Rattle.std.specs.Prelude.{ℕ, List}
use Rattle.sheets.specs.Sheets.{SheetIs}
use Rattle.console_lines.specs.Words.{short_at}
use Rattle.console_bytes.specs.Lent.{BytesFilled}

-- `sheet W C LEN`: the call's answer, and the bytes after it
abbrev pub SheetAnswered : List ℕ → List ℕ → ℕ → List ℕ → Type 0
SheetAnswered line = BytesFilled (λ before r after. SheetIs (short_at line 1) (short_at line 2) before after r) 3 line
