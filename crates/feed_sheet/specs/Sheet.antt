-- A feed sheet (02, P3): row after row of w bytes, one for each layer and one more, row d, for the exits; and how a lent one is
-- judged. Definitions only. Assumes nothing.
use Rattle.std.specs.Prelude.{ℕ, zero, suc, ◌+◌, ◌*◌, Bool, true, not, ◌&&◌, List, [], ◌∷◌, ltb, length, get_or, take, drop}
use Rattle.order.specs.Order.{◌⟶◌, first_of}
use Rattle.network.specs.Wiring.{odd}
use Rattle.feed_sheet.specs.Limits.{in_limits, permutation}

-- cells take wires by two: an odd width has no layers
unfoldable pub unpaired : ℕ → ℕ → Bool
unpaired w d = odd w && ltb 0 d

-- where wire v of level L goes: the cell's inlet that it feeds, and at level d its exit
unfoldable pub fed_at : ℕ → List ℕ → ℕ → ℕ → ℕ
fed_at w sheet L v = get_or sheet (L * w + v) 0

-- row L, and whether the first n rows are permutations
abbrev pub row_at : ℕ → List ℕ → ℕ → List ℕ
row_at w sheet L = take w (drop (L * w) sheet)

unfoldable pub rows_ok : ℕ → List ℕ → ℕ → Bool
rows_ok w sheet zero = true
rows_ok w sheet (suc n) = rows_ok w sheet n && permutation (row_at w sheet n)

-- 22 width or depth outside the limit; 20 odd width with depth above 0; 3 shorter than its d + 1 rows; 21 a row that is no
-- permutation. Further bytes are not looked at.
unfoldable pub feed_no : ℕ → ℕ → List ℕ → ℕ
feed_no w d sheet =
    first_of
    ((not (in_limits w d) ⟶ 22)
    ∷ (unpaired w d ⟶ 20)
    ∷ (ltb (length sheet) ((d + 1) * w) ⟶ 3)
    ∷ (not (rows_ok w sheet (d + 1)) ⟶ 21)
    ∷ [])
