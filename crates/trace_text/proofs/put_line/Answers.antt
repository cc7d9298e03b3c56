-- `trace_text::put_line` meets its contract: the token, what is told, and the line feed. The loop's invariant: what is told, put where
-- the text has got to, gives the whole. Assumes nothing.
use Rattle.text.specs.Text.{letters}
use Rattle.text.proofs.Text.{going_more, going_all, puts_then}
use Rattle.trace_text.specs.Lines.{named, line}
use Rattle.trace_text.proofs.put_line.Goals as goal

pub loop-word-preserved : goal.loop-word-preserved
unfolding named
loop-word-preserved c = going_more c.loop-word.invariant _ c.loop-word-test.true (puts_then c.put_text-behind.ensures c.put_decimal-next-in-loop-word.ensures)

pub returns : goal.returns
unfolding line letters
returns c =
    rw c.from.ensures at
    (puts_then c.put_decimal-next.ensures (puts_then (going_all c.loop-word.invariant c.loop-word-test.false) c.put_byte.ensures))
