-- `console_run::put_move` meets its contract: one part behind another. Assumes nothing.
use Rattle.text.specs.Text.{letters}
use Rattle.text.proofs.Text.{puts_then}
use Rattle.console_run.specs.Calls.{move_line}
use Rattle.console_run.proofs.put_move.Goals as goal

pub returns : goal.returns
unfolding move_line letters
returns c = puts_then c.put_text-at.ensures (puts_then c.put_row-end.ensures c.put_byte.ensures)
