-- `text::put_hex` meets its contract. The loop's invariant: the bytes left, put where the text has got to, give all the pairs.
-- Assumes nothing.
use Rattle.text.specs.Numbers.{hex_pair}
use Rattle.text.proofs.Text.{Going}
use Rattle.text.proofs.put_hex.Given as goal

abbrev pub invariant-loop-b : goal.invariant-loop-b
invariant-loop-b l = Going hex_pair l.bytes l.at l.initial.out l.next l.b-index l.out
