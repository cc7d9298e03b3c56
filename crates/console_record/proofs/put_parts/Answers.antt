-- `console_record::put_parts` meets its contract: one part behind another. Assumes nothing.
use Rattle.text.specs.Text.{letters}
use Rattle.text.proofs.Text.{puts_then}
use Rattle.console_record.specs.Record.{record_text}
use Rattle.console_record.proofs.put_parts.Goals as goal

pub returns : goal.returns
unfolding record_text letters
returns c = puts_then c.put_decimal-first.ensures (puts_then c.put_row-second.ensures (puts_then c.put_byte-third.ensures c.put_board.ensures))
