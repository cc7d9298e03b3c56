-- The grid that the reader fills: 37 rows of 64 bytes, a row for each level of a panel and a column for each wire. A record is
-- read into it from a row and a column on, and its places count from column 0. Definitions only. Assumes nothing.
use Rattle.std.specs.Prelude.{ℕ, ◌+◌, ◌%◌, ◌<◌, ◌≤◌, ◌≡◌, Option, Some, None, List, [], length, get_or}
use Rattle.designs.specs.Panels.{Panel}
use Rattle.leaves.specs.declared.grid.Grid.{Grid}

-- the byte of row i and column j
abbrev pub byte_at : Grid → ℕ → ℕ → ℕ
byte_at g i j = get_or (get_or g.rows i []) j 0

-- row by row, the places of a panel stand from a row and a column on
abbrev pub Holds : Grid → ℕ → ℕ → Panel → Type 0
Holds g row col p = (L v : ℕ) → L ≤ p.depth → v < p.width → byte_at g (row + L) (col + v) ≡ col + p.place L v

-- the rows above a row stay, and the columns before a column
pub record Kept (row col : ℕ) (before after : Grid) : Type 0 where
  pub above : (i j : ℕ) → i < row → byte_at after i j ≡ byte_at before i j
  pub beside : (i j : ℕ) → j < col → byte_at after i j ≡ byte_at before i j

-- one row alone is changed, from a column on
pub record InRow (row col : ℕ) (before after : Grid) : Type 0 where
  pub others : (i j : ℕ) → (i ≡ row → ⊥) → byte_at after i j ≡ byte_at before i j
  pub beside : (i j : ℕ) → j < col → byte_at after i j ≡ byte_at before i j

-- places that are put into a row where they fit
pub record Put (row col : ℕ) (places : List ℕ) (before after : Grid) : Type 0 where
  pub row_alone : InRow row col before after
  pub there : row ≤ 36 → col + length places ≤ 64 → (v : ℕ) → v < length places → byte_at after row (col + v) ≡ col + get_or places v 0

-- the exit row of what stands before a row is put together with that row: wire v goes where the row takes its exit. Nothing is
-- done where nothing stands before it
pub record Linked (exits : Option (List ℕ)) (row col width : ℕ) (before after : Grid) : Type 0 where
  pub row_alone : InRow row col before after
  pub none : exits ≡ None → after ≡ before
  pub there : (out : List ℕ) → exits ≡ Some out → row ≤ 36 → col + width ≤ 64 → (v : ℕ) → v < width → byte_at after row (col + v) ≡ byte_at before row (get_or out (col + v) 0 % 64)

-- all rows of a panel, where they fit
pub record PutPanel (p : Panel) (row col : ℕ) (before after : Grid) : Type 0 where
  pub kept : Kept row col before after
  pub there : row + p.depth ≤ 36 → col + p.width ≤ 64 → Holds after row col p
