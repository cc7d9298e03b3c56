-- The lines of a trace: one for each turn. Definitions only. Assumes nothing.
use Rattle.std.specs.Prelude.{ℕ, zero, suc, ◌+◌, List, [], ◌++◌, length}
use Rattle.moves.specs.Answer.{Answer, Passed, Dealt, Refused}
use Rattle.run.specs.declared.Run.{Run}
use Rattle.run.specs.Run.{turn_of}
use Rattle.records.specs.declared.Record.{Record}
use Rattle.records.specs.declared.Record.TheVariants.{Open, Enter, Turn as TurnRecord, Close, Number}
use Rattle.records.specs.Reading.{Read, Got, Refused as Unread}
use Rattle.outcome.specs.Course.{at_start}
use Rattle.outcome.specs.Step.{served_of}
use Rattle.outcome.specs.Schedule.{record_at}
use denote.Ref.{Bor}
use Rattle.text.specs.Text.{letters, each}
use Rattle.text.specs.Numbers.{decimal}

-- a number behind the word that says what it is
unfoldable pub named : List ℕ → ℕ → List ℕ
named word x = word ++ decimal x

-- T layer L cell C outlet S wire V: the cell that token t passed, the outlet, 0 the top, and the wire that it is on then
unfoldable pub passed_line : ℕ → ℕ → ℕ → ℕ → ℕ → List ℕ
passed_line t layer cell outlet wire =
    decimal t
    ++ (named (letters " layer ") layer
    ++ (named (letters " cell ") cell
    ++ (named (letters " outlet ") outlet
    ++ (named (letters " wire ") wire
    ++ letters "\n"))))

-- T exit E number N: the number that token t was dealt
unfoldable pub dealt_line : ℕ → ℕ → ℕ → List ℕ
dealt_line t exit number = decimal t ++ (named (letters " exit ") exit ++ (named (letters " number ") number ++ letters "\n"))

-- a token and numbers behind their words, as they are lent
abbrev pub told_text : Bor (List ℕ) × ℕ → List ℕ
told_text p = named p.0.now p.1

unfoldable pub line : ℕ → List (Bor (List ℕ) × ℕ) → List ℕ
line t told = decimal t ++ (each told_text told ++ letters "\n")

-- the line of a turn's answer; a refused turn, of which an accepted schedule has none, has no line
unfoldable pub turn_line : ℕ → Answer → List ℕ
turn_line t (Passed l v L c s) = passed_line t L c s v
turn_line t (Dealt i n) = dealt_line t i n
turn_line t (Refused k) = []

-- the line of a record, with the run before it
unfoldable pub line_of : Run → Record → List ℕ
line_of x (Open w c) = []
line_of x (Enter t v) = []
line_of x (TurnRecord t) = turn_line t (turn_of x t).answer
line_of x (Close e) = []
line_of x (Number t v n) = []

unfoldable pub on_record : Read → (Record → ℕ → List ℕ) → List ℕ
on_record (Got r len) f = f r len
on_record (Unread k present) f = []

-- From the record at an offset on, with the run x: its line, and the lines behind it with the run that it leaves. The first argument
-- bounds the records still to come; there are at most as many as bytes.
unfoldable pub lines_from : ℕ → List ℕ → Run → ℕ → List ℕ
lines_from zero s x at = []
lines_from (suc more) s x at =
    on_record (record_at s at) (λ r len. line_of x r ++ lines_from more s (served_of x r).course.run (at + len))

unfoldable pub turn_lines : List ℕ → List ℕ
turn_lines s = lines_from (length s) s at_start.run 0
