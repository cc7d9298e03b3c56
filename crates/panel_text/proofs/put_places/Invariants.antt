-- `panel_text::put_places` meets its contract. The loop's invariant: the places left, put where the text has got to, give the whole.
-- Assumes nothing.
use Rattle.panel_text.proofs.Places.{Going}
use Rattle.panel_text.proofs.put_places.Given as goal

abbrev pub invariant-loop-i : goal.invariant-loop-i
invariant-loop-i l = Going l.width l.sheet l.at l.initial.out l.next l.i l.out
