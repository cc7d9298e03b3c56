-- `text::put_pair` meets its contract: the digit of the higher half, then that of the lower. Assumes nothing.
use Rattle.text.specs.Numbers.{hex_pair}
use Rattle.text.proofs.Text.{puts_then}
use Rattle.text.proofs.put_pair.Goals as goal

pub returns : goal.returns
unfolding hex_pair
returns c = rw (c.hex_digit.ensures, c.hex_digit-2.ensures) at (puts_then c.put_byte-next.ensures c.put_byte.ensures)
