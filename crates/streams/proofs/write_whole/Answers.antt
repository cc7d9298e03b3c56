-- One write more: what it took stands behind what was written before.
use Rattle.std.proofs.Common.{rules}
use Rattle.std.proofs.lemmas.List.{take_rest}
use Rattle.streams.proofs.Reading.{write_more}
use Rattle.streams.proofs.write_whole.Goals as goal

pub loop-done-preserved : goal.loop-done-preserved
loop-done-preserved g c =
    let taken = rw take_rest at c.in_ok-taken.ensures.bytes in
    (search rules, write_more _ _ _ c.args.bytes.now c.loop-done.done c.in_ok-taken.taken c.loop-done.invariant.1 taken)
