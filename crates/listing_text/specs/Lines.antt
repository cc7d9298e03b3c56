-- The lines of a listing (01, "Listing program"). Definitions only. Assumes nothing.
use Rattle.std.specs.Prelude.{ℕ, zero, suc, ◌+◌, cond, List, [], ◌++◌, eqb}
use Rattle.records.specs.Fields.{field}
use Rattle.text.specs.Text.{letters}
use Rattle.text.specs.Numbers.{decimal}

-- three numbers and the line feed, one blank between two
unfoldable pub three : ℕ → ℕ → ℕ → List ℕ
three a b c = (decimal a ++ letters " ") ++ ((decimal b ++ letters " ") ++ (decimal c ++ letters "\n"))

-- refused N R O: number, record, offset
unfoldable pub refused_line : ℕ → ℕ → ℕ → List ℕ
refused_line n r o = letters "refused " ++ three n r o

-- network W NAME: construction 1 is bitonic, 2 periodic
unfoldable pub name_of : ℕ → List ℕ
name_of c = cond (eqb c 1) (letters "bitonic\n") (letters "periodic\n")

unfoldable pub network_line : ℕ → ℕ → List ℕ
network_line w c = letters "network " ++ ((decimal w ++ letters " ") ++ name_of c)

-- T E V: token, exit, number, for each of n reports, which stand one behind another from a place on
unfoldable pub report_lines : ℕ → List ℕ → ℕ → List ℕ
report_lines zero reports at = []
report_lines (suc n) reports at =
    three (field 2 reports (at + 4)) (field 2 reports (at + 6)) (field 4 reports (at + 8)) ++ report_lines n reports (at + 12)

-- rest M: entries
unfoldable pub rest_line : ℕ → List ℕ
rest_line m = letters "rest " ++ (decimal m ++ letters "\n")
