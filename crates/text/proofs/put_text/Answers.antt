-- `text::put_text` meets its contract. The loop's invariant: the bytes left, put where the text has got to, give the whole.
-- Assumes nothing.
use Rattle.text.proofs.Text.{byte_on, bytes_all}
use Rattle.text.proofs.put_text.Goals as goal

pub loop-b-preserved : goal.loop-b-preserved
loop-b-preserved c = byte_on c.loop-b.invariant c.loop-b-test.true c.put_byte-next.ensures

pub returns : goal.returns
returns c = bytes_all c.loop-b.invariant c.loop-b-test.false
