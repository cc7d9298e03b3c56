-- What the bytes of members come to, and what the reader keeps of the members that it has read. Definitions only. Assumes nothing.
use Rattle.std.specs.Prelude.{ℕ, ◌+◌, ◌≤◌, ◌≡◌, false, ◌&&◌, eqb, Option, Some, None, MatchOption, unwrap_or, List, [], length, get_or}
use Rattle.designs.specs.Members.{Joint}
use Rattle.designs.specs.Leaves.{Read}
use Rattle.designs.specs.Designs.{members_in, joined_at, record_at}
use Rattle.leaves.specs.declared.grid.Grid.{Grid}
use Rattle.panels.specs.declared.Sum.{Sum}

-- the members in the bytes s behind a head, of the record at an offset
abbrev pub joined_in : Joint → ℕ → ℕ → List ℕ → Read
joined_in j left at s = joined_at j at (members_in (record_at left false) (length s) (at + 4) s)

-- one member more, by what it must have equal to the first and what it adds
unfoldable pub more : Sum → ℕ → ℕ → Sum
more a own added = record {
  first = Some (unwrap_or a.first own);
  equal = a.equal && eqb own (unwrap_or a.first own);
  total = a.total + added;
}

-- the exits of the members before, in the row that the next one is read from; none where there is no member
abbrev pub ExitsIn : Grid → ℕ → Option ℕ → Option (List ℕ) → Type 0
ExitsIn g row first exits = MatchOption first (exits ≡ None) (λ own. row ≤ 36 → exits ≡ Some (get_or g.rows row []))
