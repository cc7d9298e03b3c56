-- `console_small::record` meets its contract: one part behind another. Assumes nothing.
use Rattle.text.specs.Text.{letters}
use Rattle.text.proofs.Text.{puts_then}
use Rattle.console_small.specs.Record.{small_line}
use Rattle.console_small.proofs.record.Goals as goal

pub returns : goal.returns
unfolding small_line letters
returns c = puts_then c.put_parts-first.ensures (puts_then c.put_byte-second.ensures (puts_then c.put_list-third.ensures c.put_byte.ensures))
