-- What the lists of a line on the small cabinet name. Definitions only. Assumes nothing.
use Rattle.std.specs.Prelude.{ℕ, cond, List, set, replicate, fold}
use Rattle.dials.specs.declared.Dial.{Dial}
use Rattle.console_lines.specs.Digits.{number_in}
use Rattle.console_lines.specs.Marked.{parts_of, part_at}
use Rattle.console_lists.specs.Entries.{index_in, is_index}

-- the exit that an entry names in front of `=`; 64, which is none, where it names none
abbrev pub exit_in : List ℕ → ℕ
exit_in entry = cond (is_index (part_at 61 entry 0) 0 64) (index_in (part_at 61 entry 0)) 64

-- what is behind `=` is stored at that exit
abbrev pub stored : {A : Type 0} → (List ℕ → A) → List A → List ℕ → List A
stored value values entry = set values (exit_in entry) (value (part_at 61 entry 1))

-- the entries of a list, each stored over those in front of it; `blank` at an exit that none names
abbrev pub named : {A : Type 0} → (List ℕ → A) → A → List ℕ → List A
named value blank text = fold (λ values entry. stored value values entry) (replicate 64 blank) (parts_of 44 text)

-- `NOW/LAST/SUM`
unfoldable pub dial_in : List ℕ → Dial
dial_in text =
    record {
      now = number_in (part_at 47 text 0) 65535;
      last = number_in (part_at 47 text 1) 65535;
      sum = number_in (part_at 47 text 2) 4294967295;
    }

-- the sum of an exit's yields
abbrev pub sum_in : List ℕ → ℕ
sum_in text = number_in text 4294967295
