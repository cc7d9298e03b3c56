-- `trace_text::put_line` meets its contract. The loop's invariant: what is told, put where the text has got to, gives the whole.
-- Assumes nothing.
use Rattle.text.proofs.Text.{Going}
use Rattle.trace_text.specs.Lines.{told_text}
use Rattle.trace_text.proofs.put_line.Given as goal

abbrev pub invariant-loop-word : goal.invariant-loop-word
invariant-loop-word l = Going told_text l.told l.initial.next l.initial.out l.next l.word-index l.out
