-- `console_answers::put_refusal` meets its contract. Assumes nothing.
use Rattle.text.specs.Text.{letters}
use Rattle.console_answers.specs.Answers.{refusal_line}
use Rattle.console_answers.proofs.put_refusal.Goals as goal

pub returns : goal.returns
unfolding refusal_line letters
returns c = rw c.from.ensures at c.put_number.ensures
