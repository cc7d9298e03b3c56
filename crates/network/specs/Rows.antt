-- The row of a layer and the sheet, as bytes (01, "Wiring"). Definitions only. Assumes nothing.
use Rattle.std.specs.Prelude.{ℕ, zero, suc, ◌-◌, cond, List, [], ◌∷◌, ◌++◌, ltb, replicate}
use Rattle.network.specs.Widths.{levels, depth_of}
use Rattle.network.specs.Wiring.{place}

-- f 0, f 1, .., n of them
unfoldable pub tabulate : (ℕ → ℕ) → ℕ → List ℕ
tabulate f zero = []
tabulate f (suc n) = f 0 ∷ tabulate (λ i. f (suc i)) n

-- n rows of w wires, in layer order
unfoldable pub rows : (ℕ → ℕ → ℕ) → ℕ → ℕ → List ℕ
rows f w zero = []
rows f w (suc n) = rows f w n ++ tabulate (f n) w

-- the place that wire v of layer L feeds, in the network of width w and construction c
unfoldable pub place_of : ℕ → ℕ → ℕ → ℕ → ℕ
place_of w c L v = place c (levels w) L v

-- the row of layer L, one byte for each wire; no bytes where there is no such layer
unfoldable pub row_of : ℕ → ℕ → ℕ → List ℕ
row_of w c L = cond (ltb L (depth_of w c)) (tabulate (place_of w c L) w) []

-- a row f of n wires in an array of 64 bytes, zeros after it
unfoldable pub array_of : (ℕ → ℕ) → ℕ → List ℕ
array_of f n = tabulate f n ++ replicate (64 - n) 0

unfoldable pub row_array : ℕ → ℕ → ℕ → List ℕ
row_array w c L = cond (ltb L (depth_of w c)) (array_of (place_of w c L) w) (array_of (place_of w c L) 0)

-- the sheet: the rows in layer order
unfoldable pub sheet_of : ℕ → ℕ → List ℕ
sheet_of w c = rows (place_of w c) w (depth_of w c)
