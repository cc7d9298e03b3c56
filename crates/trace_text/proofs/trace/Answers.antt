-- `trace_text::trace` meets its contract: what is put is the text of what was run. Assumes nothing.
use Rattle.std.proofs.Common.{rules}
use Rattle.trace_text.specs.Trace.{trace_of}
use Rattle.trace_text.proofs.Whole.{trace_few, accepted_puts, refused_puts}
use Rattle.trace_text.proofs.trace.Goals as goal

pub returns-in-Ok : goal.returns-in-Ok
returns-in-Ok c =
    c.put_if_room.ensures (trace_of c.args.bytes.now) (trace_few _)
    (λ lent next left k. accepted_puts (search rules) c.run.ensures c.in-Ok.is (search rules))

pub returns-in-Err : goal.returns-in-Err
returns-in-Err c =
    c.put_if_room-in-Err.ensures (trace_of c.args.bytes.now) (trace_few _)
    (λ lent next left k. refused_puts (search rules) c.run.ensures c.in-Err.is (search rules))
