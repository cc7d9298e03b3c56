-- `text::put_hex` meets its contract. The loop's invariant: the bytes left, put where the text has got to, give all the pairs.
-- Assumes nothing.
use Rattle.text.proofs.Text.{going_more}
use Rattle.text.proofs.Numbers.{hex_all}
use Rattle.text.proofs.put_hex.Goals as goal

pub loop-b-preserved : goal.loop-b-preserved
loop-b-preserved c = going_more c.loop-b.invariant 0 c.loop-b-test.true c.put_pair-next.ensures

pub returns : goal.returns
returns c = hex_all c.loop-b.invariant c.loop-b-test.false c.put_dash.ensures
