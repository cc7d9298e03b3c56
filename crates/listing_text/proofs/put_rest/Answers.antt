-- `listing_text::put_rest` meets its contract: the word, and the number behind it. Assumes nothing.
use Rattle.text.specs.Text.{letters}
use Rattle.listing_text.specs.Lines.{rest_line}
use Rattle.text.proofs.Text.{puts_then}
use Rattle.listing_text.proofs.put_rest.Goals as goal

pub returns : goal.returns
unfolding rest_line letters
returns c = puts_then c.put_text-next.ensures c.put_number.ensures
