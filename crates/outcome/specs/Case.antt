-- A case whole (01, "Listing program"). Definitions only. Assumes nothing.
use Rattle.std.specs.Prelude.{ℕ, List, [], ◌∷◌}

-- its 56 bytes, the eight records in order
unfoldable pub case_bytes : List ℕ
case_bytes =
    8 ∷ 0 ∷ 1 ∷ 0 ∷ 2 ∷ 0 ∷ 1 ∷ 0 ∷ 8 ∷ 0 ∷ 2 ∷ 0 ∷ 5 ∷ 0 ∷ 0 ∷ 0 ∷ 8 ∷ 0 ∷ 2 ∷ 0 ∷ 9 ∷ 0 ∷ 1 ∷ 0 ∷ 6 ∷ 0 ∷ 3 ∷ 0 ∷ 9 ∷ 0 ∷ 6 ∷ 0 ∷ 3 ∷ 0 ∷ 5 ∷ 0 ∷ 6 ∷ 0 ∷ 3 ∷ 0 ∷ 5 ∷ 0 ∷ 6 ∷ 0 ∷ 3 ∷ 0 ∷ 9 ∷ 0 ∷ 8 ∷ 0 ∷ 4 ∷ 0 ∷ 2 ∷ 0 ∷ 0 ∷ 0 ∷ []
