-- Limits of a panel, and when a row is a permutation (02, P3). Definitions only. Assumes nothing.
use Rattle.std.specs.Prelude.{ℕ, Bool, true, false, not, cond, ◌&&◌, List, [], ◌∷◌, ltb, leb, eqb, length}

-- width 1 to 64, depth at most 36
abbrev pub in_limits : ℕ → ℕ → Bool
in_limits w d = leb 1 w && (leb w 64 && leb d 36)

unfoldable pub among : ℕ → List ℕ → Bool
among x [] = false
among x (y ∷ ys) = cond (eqb y x) true (among x ys)

-- each is below n, and none comes twice
unfoldable pub distinct : ℕ → List ℕ → Bool
distinct n [] = true
distinct n (x ∷ xs) = ltb x n && (not (among x xs) && distinct n xs)

-- every number below the length once
abbrev pub permutation : List ℕ → Bool
permutation row = distinct (length row) row
