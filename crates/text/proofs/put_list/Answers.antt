-- `text::put_list` meets its contract. The loop's invariant: the numbers left, put where the text has got to, give the whole list.
-- Assumes nothing.
use Rattle.text.proofs.Lists.{numbers_none, number_on, numbers_all}
use Rattle.text.proofs.put_list.Goals as goal

pub loop-i-init : goal.loop-i-init
loop-i-init c = numbers_none _ _ _

pub loop-i-preserved : goal.loop-i-preserved
loop-i-preserved c = number_on c.loop-i.invariant c.loop-i-test.true c.put_comma-behind.ensures c.put_decimal-next.ensures

pub returns : goal.returns
returns c = numbers_all c.loop-i.invariant c.loop-i-test.false c.loop-i.auto.i-end c.put_dash.ensures
