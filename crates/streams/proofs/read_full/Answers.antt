-- One read more: what it gave stands behind what was read before.
use Rattle.streams.proofs.Reading.{read_more}
use Rattle.streams.proofs.read_full.Goals as goal

pub loop-done-preserved : goal.loop-done-preserved
loop-done-preserved g c =
    let read = c.in_ok-n.ensures in
    let before = c.loop-done.invariant in
    (read.fits, read_more _ _ _ c.loop-done.buf c.read_behind.new.buf c.loop-done.done c.in_ok-n.n read.front before.1 read.bytes)
