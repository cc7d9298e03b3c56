-- `panel_text::put_sheet` meets its contract: the head, and the places behind it. Assumes nothing.
use Rattle.text.specs.Text.{letters}
use Rattle.text.proofs.Text.{puts_then}
use Rattle.panel_text.specs.Panel.{sheet_text}
use Rattle.panel_text.proofs.put_sheet.Goals as goal

pub returns : goal.returns
unfolding sheet_text letters
returns c = rw (c.from-width.ensures, c.from.ensures) at (puts_then c.put_two-next.ensures c.put_places.ensures)
