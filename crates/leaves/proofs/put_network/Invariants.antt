-- `leaves::put_network` meets its contract: the rows passed stand in the grid, and no row is longer than its array. Assumes nothing.
use Rattle.std.proofs.Common.{◌≤◌}
use Rattle.designs.specs.Panels.{named}
use Rattle.leaves.proofs.Laying.{Laying}
use Rattle.leaves.proofs.put_network.Given as goal

abbrev pub invariant-loop-layer : goal.invariant-loop-layer
invariant-loop-layer l = (l.width ≤ 64) × Laying (named l.width l.construction) l.corner.row l.corner.col l.initial.grid l.layer l.grid
