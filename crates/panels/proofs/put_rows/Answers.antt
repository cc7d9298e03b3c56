-- `panels::put_rows` meets its contract: the rows passed stand in front, the bytes after them as they were. Assumes nothing.
use Rattle.std.proofs.Common.{◌≡◌, ◌∙◌, length, rules, arith}
use Rattle.leaves.specs.Grid.{byte_at}
use Rattle.network.proofs.Rows.{rows_more, rows_none}
use Rattle.panels.proofs.Written.{take_row}
use Rattle.panels.proofs.put_rows.Goals as goal

pub loop-r-init : goal.loop-r-init
loop-r-init c = rows_none (byte_at c.args.grid.now) c.args.width _

pub loop-r-preserved : goal.loop-r-preserved
loop-r-preserved c =
    let row = c.row_at-row in
    let whole : length row.result ≡ 64 = search rules in
    let bytes = take_row row.result c.args.width (omega arith) in
    rows_more (byte_at c.args.grid.now) c.args.width c.loop-r.r c.loop-r.sheet c.args.sheet.now _ c.loop-r.invariant
    (rw (row.ensures (omega arith)) at (c.copy_from_slice.ensures.after ∙ bytes))
