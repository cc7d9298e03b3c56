-- Sums over the wires, the cells or the exits below a number. Definitions only. Assumes nothing.
use Rattle.std.specs.Prelude.{ℕ, zero, suc, ◌+◌, cond, eqb}

-- y where a is b, else 0
unfoldable pub only : ℕ → ℕ → ℕ → ℕ
only a b y = cond (eqb a b) y 0

-- x 0 + .. + x (n - 1)
unfoldable pub sum : ℕ → (ℕ → ℕ) → ℕ
sum zero x = 0
sum (suc n) x = sum n x + x n
