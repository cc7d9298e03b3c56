-- `text::put_row` meets its contract. The loop's invariant: the numbers left, put where the text has got to, give the whole row.
-- Assumes nothing.
use Rattle.text.specs.Text.{letters}
use Rattle.text.specs.Numbers.{blank_number}
use Rattle.text.proofs.Text.{going_more, going_all, puts_then}
use Rattle.text.proofs.put_row.Goals as goal

pub loop-value-preserved : goal.loop-value-preserved
unfolding blank_number letters
loop-value-preserved c = going_more c.loop-value.invariant 0 c.loop-value-test.true (puts_then c.put_byte-blank.ensures c.put_decimal-next.ensures)

pub returns : goal.returns
returns c = going_all c.loop-value.invariant c.loop-value-test.false
