-- `text::put_row` meets its contract. The loop's invariant: the numbers left, put where the text has got to, give the whole row.
-- Assumes nothing.
use Rattle.text.specs.Numbers.{blank_number}
use Rattle.text.proofs.Text.{Going}
use Rattle.text.proofs.put_row.Given as goal

abbrev pub invariant-loop-value : goal.invariant-loop-value
invariant-loop-value l = Going blank_number l.values l.at l.initial.out l.next l.value-index l.out
