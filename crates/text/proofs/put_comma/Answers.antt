-- `text::put_comma` meets its contract: a comma or nothing. Assumes nothing.
use Rattle.text.specs.Text.{letters}
use Rattle.text.specs.Lists.{comma_if}
use Rattle.text.proofs.Text.{puts_none}
use Rattle.text.proofs.put_comma.Goals as goal

pub returns-then-some : goal.returns-then-some
unfolding comma_if letters
returns-then-some c = rw c.if-some.true c.put_byte.ensures

pub returns : goal.returns
unfolding comma_if letters
returns c = rw c.if-some.false (puts_none _ _)
