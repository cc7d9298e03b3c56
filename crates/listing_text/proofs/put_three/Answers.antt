-- `listing_text::put_three` meets its contract: one number behind another. Assumes nothing.
use Rattle.text.specs.Text.{letters}
use Rattle.listing_text.specs.Lines.{three}
use Rattle.text.proofs.Text.{puts_then}
use Rattle.listing_text.proofs.put_three.Goals as goal

pub returns : goal.returns
unfolding three letters
returns c = puts_then c.put_number-second.ensures (puts_then c.put_number-third.ensures c.put_number.ensures)
