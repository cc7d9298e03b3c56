-- `panel_text::put_places` meets its contract. The loop's invariant: the places left, put where the text has got to, give the whole.
-- Assumes nothing.
use Rattle.panel_text.proofs.Places.{goes_on, ends}
use Rattle.panel_text.proofs.put_places.Goals as goal

pub loop-i-preserved : goal.loop-i-preserved
loop-i-preserved c = goes_on c.loop-i.invariant c.loop-i-test.true c.from.ensures c.end_of-end.ensures c.put_number-next.ensures

pub returns : goal.returns
returns c = ends c.loop-i.invariant c.loop-i-test.false
