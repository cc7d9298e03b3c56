-- Which texts are lists of a record: entries with commas between them, or `-` for no entry. Definitions only. Assumes nothing.
use Rattle.std.specs.Prelude.{ℕ, Bool, true, ◌&&◌, ◌||◌, List, [], ◌∷◌, bytes_eq}
use Rattle.console_lines.specs.Marked.{parts_of}
use Rattle.console_lists.specs.declared.Entries.{Entries}
use Rattle.console_lists.specs.Entries.{is_entry, next_of}

-- are all parts entries, the first from `least` on and each with an index above the one before?
unfoldable pub are_entries : Entries → List (List ℕ) → ℕ → Bool
are_entries kind [] least = true
are_entries kind (entry ∷ rest) least = is_entry kind entry least && are_entries kind rest (next_of entry)

-- is the text such a list: `-` alone, or entries with commas between them?
abbrev pub is_list : Entries → List ℕ → Bool
is_list kind text = bytes_eq text (45 ∷ []) || are_entries kind (parts_of 44 text) 0
