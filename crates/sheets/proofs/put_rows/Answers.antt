-- `sheets::put_rows` meets its contract: the rows passed stand in front, the bytes after them as they were. Assumes nothing.
use mathlib.Core.Path.{◌≡◌, ◌∙◌}
use Prim.Native.Nat.{◌+◌, ◌-◌, ◌*◌}
use native.Mathlib.Omega.{arith}
use lib.ListN.{length, take, drop}
use Rattle.network.specs.Rows.{place_of}
use Rattle.network.proofs.Widths.{layered}
use Rattle.network.proofs.Rows.{take_row_array, rows_more, rows_none, row_end}
use Rattle.sheets.proofs.Sheets.{part_long}
use Rattle.sheets.proofs.put_rows.Goals as goal
use Rattle.sheets.proofs.put_rows.Goals.{After-row-row}

-- the part that is lent is a row long
long : (c : After-row-row) → let at = c.loop-layer.layer * c.args.width in length (take (at + c.args.width - at) (drop at c.loop-layer.out)) ≡ c.args.width
long c =
    part_long (c.loop-layer.layer * c.args.width) c.args.width c.loop-layer.out
    (omega (arith, row_end c.loop-layer.layer c.args.depth c.args.width c.loop-layer-test.true))

pub loop-layer-init : goal.loop-layer-init
loop-layer-init c = rows_none (place_of c.args.width c.args.construction) c.args.width _

pub put_row-requires : goal.put_row-requires
put_row-requires c =
    rw (long (goal.at.put_row-requires c).After-row-row)
    ((layered c.args.width c.args.construction c.loop-layer.layer (rw c.requires.0 at c.loop-layer-test.true)).small)

pub loop-layer-preserved : goal.loop-layer-preserved
loop-layer-preserved c =
    let a = c.args in
    let l = c.loop-layer in
    let row = take_row_array a.width a.construction l.layer (rw c.requires.0 at c.loop-layer-test.true) in
    rows_more (place_of a.width a.construction) a.width l.layer l.out a.out.now c.put_row.new.out l.invariant
    (c.put_row.ensures ∙ rw (long (goal.at.loop-layer-preserved c).After-row-row, c.row-row.ensures) row)
