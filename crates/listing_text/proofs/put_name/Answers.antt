-- `listing_text::put_name` meets its contract: a name for each construction. Assumes nothing.
use borrow.Author.Tests.{eq-eqb, ne_eqb}
use Rattle.text.specs.Text.{letters}
use Rattle.listing_text.specs.Lines.{name_of}
use Rattle.listing_text.proofs.put_name.Goals as goal

pub returns-then-construction-eq1 : goal.returns-then-construction-eq1
unfolding name_of letters
returns-then-construction-eq1 c = rw (eq-eqb _ 1 c.if-construction-eq1.true) c.put_text.ensures

pub returns : goal.returns
unfolding name_of letters
returns c = rw (ne_eqb _ 1 c.if-construction-eq1.false) c.put_text-2.ensures
