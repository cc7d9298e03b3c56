-- `console_record::put_board` meets its contract: one list behind another. Assumes nothing.
use Rattle.text.specs.Text.{letters}
use Rattle.text.proofs.Text.{puts_then}
use Rattle.console_record.specs.Record.{board_text}
use Rattle.console_record.proofs.put_board.Goals as goal

pub returns : goal.returns
unfolding board_text letters
returns c = puts_then c.put_list-first.ensures (puts_then c.put_byte-second.ensures (puts_then c.put_list-third.ensures (puts_then c.put_byte-fourth.ensures c.put_list.ensures)))
