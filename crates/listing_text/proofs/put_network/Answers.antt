-- `listing_text::put_network` meets its contract: the word, the width and the name, one behind another. Assumes nothing.
use Rattle.text.specs.Text.{letters}
use Rattle.listing_text.specs.Lines.{network_line}
use Rattle.text.proofs.Text.{puts_then}
use Rattle.listing_text.proofs.put_network.Goals as goal

pub returns : goal.returns
unfolding network_line letters
returns c = puts_then c.put_text-first.ensures (puts_then c.put_number-second.ensures c.put_name.ensures)
