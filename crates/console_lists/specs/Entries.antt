-- An entry of a list of a record, as text. Definitions only. Assumes nothing.
use Rattle.std.specs.Prelude.{ℕ, ◌+◌, ◌≤◌, ◌<◌, ◌≡◌, Bool, cond, ◌&&◌, List, ltb, leb, eqb, Option, IfSome}
use Rattle.std.specs.Bool.{then_some}
use Rattle.console_lines.specs.Digits.{is_number, number_in}
use Rattle.console_lines.specs.Marked.{part_at, part_count}
use Rattle.console_lists.specs.declared.Entries.{Entries}
use Rattle.console_lists.specs.declared.Entries.TheVariants.{Counts, Toggles, Places, Dials}

-- the index that a text spells, a number of 16 bits; 0 where it is none
abbrev pub index_in : List ℕ → ℕ
index_in text = number_in text 65535

-- is the text an index from `least` on, and below the size?
unfoldable pub is_index : List ℕ → ℕ → ℕ → Bool
is_index text least size = is_number text 65535 && leb least (index_in text) && ltb (index_in text) size

-- `i=..`: two parts, the first such an index
unfoldable pub is_keyed : List ℕ → ℕ → ℕ → Bool
is_keyed entry least size = eqb (part_count 61 entry) 2 && is_index (part_at 61 entry 0) least size

-- `i=n`: exit i has dealt n numbers
abbrev pub is_count : List ℕ → ℕ → Bool
is_count entry least = is_keyed entry least 64 && is_number (part_at 61 entry 1) 4294967295

-- `i`: toggle i is down
abbrev pub is_toggle : List ℕ → ℕ → Bool
is_toggle entry least = is_index entry least 1152

-- three numbers with `/` between them, each with its most
unfoldable pub are_three : ℕ → ℕ → ℕ → List ℕ → Bool
are_three a b c text =
    eqb (part_count 47 text) 3 && is_number (part_at 47 text 0) a && is_number (part_at 47 text 1) b && is_number (part_at 47 text 2) c

-- `INSIDE/LEVEL/WIRE`
abbrev pub is_seat : List ℕ → Bool
is_seat text = are_three 1 65535 65535 text

-- `t=INSIDE/LEVEL/WIRE`: where token t is
abbrev pub is_place : List ℕ → ℕ → Bool
is_place entry least = is_keyed entry least 256 && is_seat (part_at 61 entry 1)

-- `NOW/LAST/SUM`
abbrev pub is_reading : List ℕ → Bool
is_reading text = are_three 65535 65535 4294967295 text

-- `i=NOW/LAST/SUM`: the dial of exit i, its last reading and the sum of its yields
abbrev pub is_dial : List ℕ → ℕ → Bool
is_dial entry least = is_keyed entry least 64 && is_reading (part_at 61 entry 1)

-- the list that a letter names: of exit counts (c), of toggles (t), of dials (d) or, for any other letter, of places
abbrev pub entries_of : ℕ → Entries
entries_of list = cond (eqb list 99) Counts (cond (eqb list 116) Toggles (cond (eqb list 100) Dials Places))

-- an entry of each of the lists
abbrev pub is_entry : Entries → List ℕ → ℕ → Bool
is_entry Counts entry least = is_count entry least
is_entry Toggles entry least = is_toggle entry least
is_entry Places entry least = is_place entry least
is_entry Dials entry least = is_dial entry least

-- the least index of the entry behind this one, whose own index is in front of `=`, or all of it
abbrev pub next_of : List ℕ → ℕ
next_of entry = index_in (part_at 61 entry 0) + 1

-- ---- what is read

-- an index as it is read
pub record IndexIs (is : Bool) (index size : ℕ) (read : Option ℕ) : Type 0 where
  pub read_is : read ≡ then_some is index
  pub within : IfSome read (λ at. at < size)

-- three numbers as they are read
pub record Three (a b c : ℕ) (read : ℕ × ℕ × ℕ) : Type 0 where
  pub first : read.0 ≤ a
  pub second : read.1 ≤ b
  pub third : read.2 ≤ c
