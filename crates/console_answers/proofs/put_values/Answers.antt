-- `console_answers::put_values` meets its contract: the head and the line feed. Assumes nothing.
use Rattle.text.specs.Text.{letters}
use Rattle.console_answers.specs.Answers.{values_line}
use Rattle.text.proofs.Text.{puts_then}
use Rattle.console_answers.proofs.put_values.Goals as goal

pub returns : goal.returns
unfolding values_line letters
returns c = puts_then c.put_head-next.ensures c.put_byte.ensures
