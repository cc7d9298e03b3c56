-- `sheets::sheet` meets its contract: refused, nothing is written; else there is room for all rows. Assumes nothing.
use mathlib.Core.Path.{◌≡◌, sym, ◌∙◌}
use lib.ListN.{length}
use Rattle.network.specs.Rows.{sheet_of}
use Rattle.network.proofs.Rows.{length_sheet}
use Rattle.sheets.specs.Sheets.{sheet_no, sheet_length}
use Rattle.sheets.proofs.Sheets.{sheet_room}
use Rattle.sheets.proofs.sheet.Goals as goal

pub put_rows-requires : goal.put_rows-requires
unfolding sheet_length
put_rows-requires c =
    let e = c.depth_of-depth.ensures in
    (e, rw e (sheet_room _ _ _ (sym c.in_ok-check_sheet.ensures)))

pub returns : goal.returns
unfolding sheet_of sheet_length
returns c =
    let z : sheet_no c.args.width c.args.construction (length c.args.out.now) ≡ 0 = sym c.in_ok-check_sheet.ensures in
    record {
      answer = rw (z, ← c.sheet_length.ensures);
      bytes = rw (z, length_sheet) (c.put_rows.ensures ∙ rw c.depth_of-depth.ensures);
    }
