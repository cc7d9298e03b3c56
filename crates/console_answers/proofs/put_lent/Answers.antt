-- `console_answers::put_lent` meets its contract: one part behind another. Assumes nothing.
use Rattle.text.specs.Text.{letters}
use Rattle.text.proofs.Text.{puts_then}
use Rattle.console_answers.specs.Answers.{lent_line}
use Rattle.console_answers.proofs.put_lent.Goals as goal

pub returns : goal.returns
unfolding lent_line letters
returns g c = λ lent puts. puts_then c.put_head-next.ensures (puts_then c.put_byte-blank.ensures (puts_then (puts _ _ _ _ c.put-end.ensures) c.put_byte.ensures))
