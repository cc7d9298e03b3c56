-- `trace::trace_all` meets its contract: the room is enough for every trace. Assumes nothing.
use Rattle.std.proofs.Common.{◌≤◌, length, arith}
use Rattle.trace_text.specs.Trace.{trace_of}
use Rattle.listing_text.proofs.Whole.{lists_ok, lists_whole}
use Rattle.trace_text.proofs.Whole.{trace_most}
use Rattle.trace.proofs.trace_all.Goals as goal

pub unwrap-requires : goal.unwrap-requires
unwrap-requires c =
    let fits : length (trace_of c.args.bytes.now) ≤ length c.args.out.now = omega (arith, trace_most c.args.bytes.now) in
    lists_ok fits c.trace.ensures

pub returns : goal.returns
returns c =
    let fits : length (trace_of c.args.bytes.now) ≤ length c.args.out.now = omega (arith, trace_most c.args.bytes.now) in
    lists_whole fits (rw c.unwrap.ensures at c.trace.ensures)
