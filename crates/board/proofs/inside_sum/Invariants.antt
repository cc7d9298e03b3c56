-- `board::inside_sum` meets its contract. The invariant: the sum so far is that of the places passed, at most one for each. Assumes
-- nothing.
use mathlib.Core.Path.{◌≡◌}
use Prim.Native.Nat.{◌≤◌}
use lib.ListN.{take}
use Rattle.std.specs.List.{sum_by}
use Rattle.board.specs.Sound.{inside_one}
use Rattle.board.proofs.inside_sum.Given as goal

abbrev pub invariant-loop-p : goal.invariant-loop-p
invariant-loop-p l = (l.sum ≡ sum_by inside_one (take l.p-index l.places)) × (l.sum ≤ l.p-index)
