-- A text in parts that a mark stands between. Definitions only. Assumes nothing.
use Rattle.std.specs.Prelude.{ℕ, ◌+◌, ◌≤◌, ◌≡◌, List, [], eqb, length, get_or}
use Rattle.std.specs.List.{slice_split}

-- the parts of a text, at least one
abbrev pub parts_of : ℕ → List ℕ → List (List ℕ)
parts_of mark text = slice_split (λ glyph. eqb glyph mark) text

-- part k, from 0; nothing where there are fewer
unfoldable pub part_at : ℕ → List ℕ → ℕ → List ℕ
part_at mark text k = get_or (parts_of mark text) k []

-- how many parts the text has
unfoldable pub part_count : ℕ → List ℕ → ℕ
part_count mark text = length (parts_of mark text)

-- the text has so many parts, at most one more than its bytes
pub record PartsCounted (mark : ℕ) (text : List ℕ) (count : ℕ) : Type 0 where
  pub whole : count ≡ part_count mark text
  pub most : count ≤ length text + 1
