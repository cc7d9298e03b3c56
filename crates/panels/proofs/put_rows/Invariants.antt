-- `panels::put_rows` meets its contract: the rows passed stand in front, the bytes after them as they were. Assumes nothing.
use Rattle.std.proofs.Common.{◌≡◌, ◌++◌, ◌*◌, drop}
use Rattle.network.specs.Rows.{rows}
use Rattle.leaves.specs.Grid.{byte_at}
use Rattle.panels.proofs.put_rows.Given as goal

abbrev pub invariant-loop-r : goal.invariant-loop-r
invariant-loop-r l = l.sheet ≡ rows (byte_at l.grid) l.width l.r ++ drop (l.r * l.width) l.initial.sheet
