-- `trace_text::put_accepted` meets its contract: three parts, one behind another. Assumes nothing.
use Rattle.text.proofs.Text.{puts_then}
use Rattle.trace_text.specs.Trace.{accepted_text}
use Rattle.trace_text.proofs.put_accepted.Goals as goal

pub returns : goal.returns
unfolding accepted_text
returns c = rw c.from-width.ensures at (puts_then c.put_network-first.ensures (puts_then c.put_turns-second.ensures c.put_rest.ensures))
