-- `panel_text::put_fault` meets its contract: the word, the number and the offset. Assumes nothing.
use Rattle.text.specs.Text.{letters}
use Rattle.panel_text.specs.Panel.{refused_text}
use Rattle.panel_text.proofs.put_fault.Goals as goal

pub returns : goal.returns
unfolding refused_text letters
returns c = rw (c.from-number.ensures, c.number.ensures) at c.put_two.ensures
