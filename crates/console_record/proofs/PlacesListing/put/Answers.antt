-- `console_record`'s `put` of a place meets its contract: one number behind another. Assumes nothing.
use Rattle.text.specs.Text.{letters}
use Rattle.text.proofs.Text.{puts_then}
use Rattle.console_record.proofs.Members.{one_of}
use Rattle.console_record.proofs.PlacesListing.put.Goals as goal

pub returns : goal.returns
unfolding letters
returns c =
    rw (c.from.ensures, one_of, c.from-2.ensures, c.from-3.ensures) at
    (puts_then c.put_number-first.ensures (puts_then c.put_number-second.ensures (puts_then c.put_number-third.ensures c.put_decimal.ensures)))
