-- `panel::print_all` meets its contract: the room is enough for every text. Assumes nothing.
use Rattle.std.proofs.Common.{◌≤◌, length, arith}
use Rattle.panel_text.specs.Panel.{panel_of}
use Rattle.listing_text.proofs.Whole.{lists_ok, lists_whole}
use Rattle.panel_text.proofs.Whole.{panel_most}
use Rattle.panel.proofs.print_all.Goals as goal

pub unwrap-requires : goal.unwrap-requires
unwrap-requires c =
    let fits : length (panel_of c.args.design.now) ≤ length c.args.out.now = omega (arith, panel_most c.args.design.now) in
    lists_ok fits c.panel.ensures

pub returns : goal.returns
returns c =
    let fits : length (panel_of c.args.design.now) ≤ length c.args.out.now = omega (arith, panel_most c.args.design.now) in
    lists_whole fits (rw c.unwrap.ensures at c.panel.ensures)
