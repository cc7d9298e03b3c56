-- `schedule::Stage::pass` meets its contract. The loop's invariant: the run is sound between the open and the close, the bytes before
-- the offset pay for the reports done, and what is told from this record on is what the whole schedule tells. The measure is the bytes
-- left. Assumes nothing.
use Rattle.std.proofs.Common.{arith}
use Rattle.schedule.proofs.Loop.{begins, running, closed, ends_late, ends_whole, ends_unread, spot, servable, ends_refused, goes_on}
use Rattle.schedule.proofs.Stage.pass.Goals as goal

pub loop-read-init : goal.loop-read-init
loop-read-init c = begins c.requires

pub returns-in_default : goal.returns-in_default
returns-in_default c =
    ends_unread c.loop-read.self c.loop-read.invariant (running _ c.loop-read-test.ensures) _
    (rw c.unwrap_err-unread.ensures at c.read_at-read.ensures)

pub serve-requires : goal.serve-requires
serve-requires c = servable c.loop-read.self c.loop-read.invariant (running _ c.loop-read-test.ensures) c.in-Ok.ensures

pub returns-in-Err : goal.returns-in-Err
returns-in-Err c =
    rw c.stopped.ensures
    (ends_refused c.loop-read.self c.loop-read.invariant (running _ c.loop-read-test.ensures) c.in-Ok.ensures c.serve.new.self _ c.in-Err.ensures)

pub overflow_add-at : goal.overflow_add-at
overflow_add-at c =
    let g = c.loop-read.invariant in
    omega (arith, (spot c.loop-read.self g (running _ c.loop-read-test.ensures) c.in-Ok.ensures).within, g.short)

pub loop-read-smaller : goal.loop-read-smaller
loop-read-smaller c =
    let p = spot c.loop-read.self c.loop-read.invariant (running _ c.loop-read-test.ensures) c.in-Ok.ensures in
    omega (arith, p.onward, p.within)

pub loop-read-preserved : goal.loop-read-preserved
loop-read-preserved c =
    goes_on c.loop-read.self c.loop-read.invariant (running _ c.loop-read-test.ensures) c.in-Ok.ensures c.serve.new.self c.in_default-serve.ensures

pub returns-then-at-bytes : goal.returns-then-at-bytes
returns-then-at-bytes c =
    rw c.stopped-then-at-bytes.ensures
    (ends_late c.loop-read.self c.loop-read.invariant (closed _ c.loop-read-test.ensures) c.if-at-bytes.true)

pub returns : goal.returns
returns c = rw c.len.ensures (ends_whole c.loop-read.self c.loop-read.invariant (closed _ c.loop-read-test.ensures) c.if-at-bytes.false)
