-- The small cabinet's record as the console's text, `W C ENTERED COUNTS TOGGLES PLACES DIALS`: of the dials, those that differ from an
-- opening's. Definitions only. Assumes nothing.
use Rattle.std.specs.Prelude.{ℕ, Bool, not, ◌||◌, List, ◌++◌, eqb}
use Rattle.text.specs.Text.{letters}
use Rattle.text.specs.Numbers.{decimal}
use Rattle.text.specs.Lists.{listed, indexed}
use Rattle.dials.specs.declared.Dial.{Dial}
use Rattle.small.specs.declared.Cabinet.{Cabinet}
use Rattle.console_record.specs.Record.{record_text}

-- `i=NOW/LAST/SUM`: the dial of exit i, its last reading and the sum of its yields
abbrev pub has_read : Dial → Bool
has_read d = (not (eqb d.now 0) || not (eqb d.last 0)) || not (eqb d.sum 0)

abbrev pub dial_entry : ℕ → Dial → List ℕ
dial_entry exit d =
    (decimal exit ++ letters "=")
    ++ ((decimal d.now ++ letters "/") ++ ((decimal d.last ++ letters "/") ++ decimal d.sum))

abbrev pub dial_list : List Dial → List ℕ
dial_list ds = listed (indexed has_read dial_entry 0 ds)

unfoldable pub small_line : Cabinet → List ℕ
small_line x =
    record_text x.run.width x.run.construction x.run.board
    ++ (letters " " ++ (dial_list x.dials ++ letters "\n"))
