-- `listing_text::put_refused` meets its contract: the word, and the three numbers behind it. Assumes nothing.
use Rattle.text.specs.Text.{letters}
use Rattle.listing_text.specs.Lines.{refused_line}
use Rattle.text.proofs.Text.{puts_then}
use Rattle.listing_text.proofs.put_refused.Goals as goal

pub returns : goal.returns
unfolding refused_line letters
returns c = puts_then c.put_text-next.ensures c.put_three.ensures
