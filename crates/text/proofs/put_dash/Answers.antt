-- `text::put_dash` meets its contract: a dash or nothing. Assumes nothing.
use Rattle.text.specs.Text.{letters}
use Rattle.text.specs.Lists.{dash_unless}
use Rattle.text.proofs.Text.{puts_none}
use Rattle.text.proofs.put_dash.Goals as goal

pub returns-then-some : goal.returns-then-some
unfolding dash_unless letters
returns-then-some c = rw c.if-some.true (puts_none _ _)

pub returns : goal.returns
unfolding dash_unless letters
returns c = rw c.if-some.false c.put_byte.ensures
