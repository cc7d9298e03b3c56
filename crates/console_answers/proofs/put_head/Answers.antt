-- `console_answers::put_head` meets its contract: the number, and the row behind it. Assumes nothing.
use Rattle.console_answers.specs.Answers.{head_of}
use Rattle.text.proofs.Text.{puts_then}
use Rattle.console_answers.proofs.put_head.Goals as goal

pub returns : goal.returns
unfolding head_of
returns c = rw c.from.ensures at (puts_then c.put_decimal-next.ensures c.put_row.ensures)
