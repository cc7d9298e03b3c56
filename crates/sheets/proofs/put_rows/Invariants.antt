-- `sheets::put_rows` meets its contract: the rows passed stand in front, the bytes after them as they were. Assumes nothing.
use mathlib.Core.Path.{◌≡◌}
use mathlib.Core.List.{◌++◌}
use Prim.Native.Nat.{◌*◌}
use lib.ListN.{drop}
use Rattle.network.specs.Rows.{place_of, rows}
use Rattle.sheets.proofs.put_rows.Given as goal

abbrev pub invariant-loop-layer : goal.invariant-loop-layer
invariant-loop-layer l =
    l.out ≡ rows (place_of l.width l.construction) l.width l.layer ++ drop (l.layer * l.width) l.initial.out
