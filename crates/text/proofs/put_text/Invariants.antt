-- `text::put_text` meets its contract. The loop's invariant: the bytes left, put where the text has got to, give the whole.
-- Assumes nothing.
use lib.ListN.{drop}
use Rattle.text.proofs.Text.{Leads}
use Rattle.text.proofs.put_text.Given as goal

abbrev pub invariant-loop-b : goal.invariant-loop-b
invariant-loop-b l = Leads (drop l.b-index l.text) l.text l.at l.initial.out l.next l.out
