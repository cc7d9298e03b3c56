-- What the reader answers of a record of a design. Definitions only. Assumes nothing.
use Rattle.std.specs.Prelude.{ℕ, ◌+◌, ◌≤◌, ◌≡◌, cond, eqb, Result, Ok, Err}
use Rattle.designs.specs.Panels.{Panel}
use Rattle.designs.specs.Leaves.{Fault, Read, refused, made, fault_of, fault}
use Rattle.leaves.specs.declared.Size.{Size}
use Rattle.leaves.specs.declared.grid.Grid.{Grid}
use Rattle.leaves.specs.Grid.{Kept, Holds}

pub data Judged : Type 0 where
  Refused : Fault → Judged
  Made : Size → Judged

abbrev pub judged_by : Result Size Rattle.designs.specs.declared.Fault.Fault → Judged
judged_by (Ok p) = Made p
judged_by (Err x) = Refused (fault_of x)

abbrev pub size_of : Panel → Size
size_of p = record { width = p.width; depth = p.depth }

-- a panel is told by its size; its places stand in the grid
unfoldable pub told : Read → Judged
told (refused x) = Refused x
told (made p) = Made (size_of p)

-- the record at an offset is refused by its number, or its panel is made
unfoldable pub told_at : ℕ → ℕ → Size → Judged
told_at at number size = cond (eqb number 0) (Made size) (Refused (fault at number))

-- what is answered of a record that is read into the grid; places stand there where they fit
pub record ReadInto (x : Read) (row col : ℕ) (before after : Grid) (r : Judged) : Type 0 where
  pub answer : r ≡ told x
  pub kept : Kept row col before after
  pub there : (p : Panel) → x ≡ made p → row + p.depth ≤ 36 → col + p.width ≤ 64 → Holds after row col p
