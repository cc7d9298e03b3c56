-- `text::put_number` meets its contract: the digits, and the byte behind them. Assumes nothing.
use Rattle.text.proofs.Text.{puts_then}
use Rattle.text.proofs.put_number.Goals as goal

pub returns : goal.returns
returns c = puts_then c.put_decimal-next.ensures c.put_byte.ensures
