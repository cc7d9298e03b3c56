-- `panel_text::put_two` meets its contract: the word and the two numbers, one behind another. Assumes nothing.
use Rattle.text.specs.Text.{letters}
use Rattle.text.proofs.Text.{puts_then}
use Rattle.panel_text.specs.Panel.{two_line}
use Rattle.panel_text.proofs.put_two.Goals as goal

pub returns : goal.returns
unfolding two_line letters
returns c = puts_then c.put_text-first.ensures (puts_then c.put_number-second.ensures c.put_number.ensures)
