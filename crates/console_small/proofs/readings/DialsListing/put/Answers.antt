-- `console_small`'s `put` of a dial meets its contract: one number behind another. Assumes nothing.
use Rattle.text.specs.Text.{letters}
use Rattle.text.proofs.Text.{puts_then}
use Rattle.console_small.proofs.readings.DialsListing.put.Goals as goal

pub returns : goal.returns
unfolding letters
returns c =
    rw (c.from.ensures, c.from-2.ensures) at
    (puts_then c.put_number-first.ensures (puts_then c.put_number-second.ensures (puts_then c.put_number-third.ensures c.put_decimal.ensures)))
