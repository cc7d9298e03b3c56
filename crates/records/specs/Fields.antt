-- Fields of two and four bytes, little-endian (01, "Schedule bytes"). Definitions only. Assumes nothing.
use Rattle.std.specs.Prelude.{ℕ, zero, suc, ◌+◌, ◌*◌, ◌/◌, ◌%◌, List, [], ◌∷◌, ◌++◌, length, take, drop}

-- the number that bytes spell, the lowest first
unfoldable pub spelt : List ℕ → ℕ
spelt [] = 0
spelt (b ∷ bs) = b + 256 * spelt bs

-- the field of n bytes at a place
abbrev pub field : ℕ → List ℕ → ℕ → ℕ
field n s at = spelt (take n (drop at s))

-- a number as n bytes, the lowest first
unfoldable pub bytes_in : ℕ → ℕ → List ℕ
bytes_in zero x = []
bytes_in (suc n) x = x % 256 ∷ bytes_in n (x / 256)

-- a buffer with bytes at a place of it; what stands before and behind them stays
unfoldable pub placed : List ℕ → ℕ → List ℕ → List ℕ
placed out at bytes = take at out ++ (bytes ++ drop (at + length bytes) out)
