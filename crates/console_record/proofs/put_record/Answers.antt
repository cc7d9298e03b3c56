-- `console_record::put_record` meets its contract: the record, and the line feed. Assumes nothing.
use Rattle.text.specs.Text.{letters}
use Rattle.text.proofs.Text.{puts_then}
use Rattle.console_record.specs.Record.{record_line}
use Rattle.console_record.proofs.put_record.Goals as goal

pub returns : goal.returns
unfolding record_line letters
returns c = puts_then c.put_parts-end.ensures c.put_byte.ensures
