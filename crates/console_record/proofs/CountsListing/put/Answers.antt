-- `console_record`'s `put` of a count meets its contract: one number behind another. Assumes nothing.
use Rattle.text.specs.Text.{letters}
use Rattle.text.proofs.Text.{puts_then}
use Rattle.console_record.proofs.CountsListing.put.Goals as goal

pub returns : goal.returns
unfolding letters
returns c = puts_then c.put_number-first.ensures c.put_decimal.ensures
