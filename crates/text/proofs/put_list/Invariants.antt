-- `text::put_list` meets its contract. The loop's invariant: the numbers left, put where the text has got to, give the whole list.
-- Assumes nothing.
use Rattle.text.proofs.Lists.{Numbers}
use Rattle.text.proofs.put_list.Given as goal

abbrev pub invariant-loop-i : goal.invariant-loop-i
invariant-loop-i l = Numbers l.numbers l.at l.initial.out l.next l.i l.out
