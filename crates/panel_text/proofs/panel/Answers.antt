-- `panel_text::panel` meets its contract: what is put is the text of what was read. Assumes nothing.
use Rattle.std.proofs.Common.{◌≤◌, of_calls, rules, sym}
use lib.Seq.{length-take-le}
use Rattle.panel_text.specs.Panel.{panel_of}
use Rattle.panel_text.proofs.Whole.{panel_few, shown_design, sheet_puts, fault_puts}
use Rattle.panel_text.proofs.panel.Goals as goal

pub slice_bounds-sheet-end : goal.slice_bounds-sheet-end
slice_bounds-sheet-end c = (shown_design (search rules) c.read.ensures c.in-Ok.is).within

pub slice_bounds-filled-end : goal.slice_bounds-filled-end
slice_bounds-filled-end c = sym (length-take-le _ _ (shown_design (search rules) c.read.ensures c.in-Ok.is).within)

pub put_if_room-requires : goal.put_if_room-requires
put_if_room-requires c =
    let some : 1 ≤ c.in-Ok.panel.width = (shown_design (search rules) c.read.ensures c.in-Ok.is).some in
    search (rules, of_calls, some)

pub returns-in-Ok : goal.returns-in-Ok
returns-in-Ok c =
    c.put_if_room.ensures (panel_of c.args.design.now) (panel_few _)
    (λ lent next left k. sheet_puts (search rules) c.read.ensures c.in-Ok.is (search rules))

pub returns-in-Err : goal.returns-in-Err
returns-in-Err c =
    c.put_if_room-in-Err.ensures (panel_of c.args.design.now) (panel_few _)
    (λ lent next left k. fault_puts (search rules) c.read.ensures c.in-Err.is (search rules))
