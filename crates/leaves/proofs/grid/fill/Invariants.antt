-- `leaves::grid::fill` meets its contract: the bytes passed are filled. Assumes nothing.
use Rattle.std.proofs.Common.{◌≡◌, ℕ, ◌+◌, ◌<◌, get_or}
use Rattle.leaves.proofs.grid.fill.Given as goal

abbrev pub invariant-loop-v : goal.invariant-loop-v
invariant-loop-v g l =
    ((v : ℕ) → v < l.v → goal.F-post g l.byte v (get_or l.row (l.col + v) 0))
    × ((j : ℕ) → j < l.col → get_or l.row j 0 ≡ get_or l.initial.row j 0)
