-- `listing_text::put_accepted` meets its contract: three parts, one behind another. Assumes nothing.
use Rattle.listing_text.specs.Listing.{accepted_text}
use Rattle.text.proofs.Text.{puts_then}
use Rattle.listing_text.proofs.put_accepted.Goals as goal

pub returns : goal.returns
unfolding accepted_text
returns c = rw c.from.ensures at (puts_then c.put_network-first.ensures (puts_then c.put_lines-second.ensures c.put_rest.ensures))
