-- Tokens at rest (01, "A cell", "Wiring"; 000, 2.1): how many each wire has had, once all that entered have come out.
-- The count of wire v is x v; of w wires those below w count. Definitions only. Assumes nothing.
use Rattle.std.specs.Prelude.{ℕ, zero, suc, ◌+◌, ◌-◌, ◌/◌, ◌%◌}
use Rattle.rest.specs.Sum.{only, sum}

-- outlet s of a cell after n tokens: n/2 rounded up at the top, 0, and rounded down at the bottom, 1
abbrev pub outlet : ℕ → ℕ → ℕ
outlet s n = (n + 1 - s) / 2

-- the tokens that come to cell c: the counts of the wires that feed it, where wire v of w feeds cell f v
unfoldable pub csum : ℕ → (ℕ → ℕ) → (ℕ → ℕ) → ℕ → ℕ
csum w f x c = sum w (λ v. only (f v) c (x v))

-- a layer: wire 2c + s of the next level is outlet s of cell c
unfoldable pub layer : ℕ → (ℕ → ℕ) → (ℕ → ℕ) → ℕ → ℕ
layer w f x p = outlet (p % 2) (csum w f x (p / 2))

-- the counts at level L: x at level 0, then layer after layer; `cell L v` is the cell that wire v of level L feeds
unfoldable pub flow : ℕ → (ℕ → ℕ → ℕ) → (ℕ → ℕ) → ℕ → ℕ → ℕ
flow w cell x zero v = x v
flow w cell x (suc L) v = layer w (cell L) (flow w cell x L) v
