-- `trace_text::put_turn` meets its contract: each arm knows the answer. Assumes nothing.
use mathlib.Core.Path.{refl}
use Rattle.text.specs.Text.{letters}
use Rattle.text.proofs.Text.{puts_none}
use Rattle.trace_text.specs.Lines.{turn_line}
use Rattle.trace_text.proofs.Lines.{puts_passed, puts_dealt}
use Rattle.trace_text.proofs.put_turn.Goals as goal

pub returns-in_default : goal.returns-in_default
unfolding turn_line
returns-in_default c = rw c.in_default.is (puts_none _ _)

pub returns-in-Passed : goal.returns-in-Passed
unfolding turn_line letters
returns-in-Passed c =
    rw (c.in-Ok.is, c.in-Passed.is)
    (puts_passed _ _ _ _ _ c.put_line.ensures refl refl refl refl c.from.ensures c.from-in-Passed.ensures c.from-in-Passed-2.ensures c.from-in-Passed-3.ensures)

pub returns-in-Dealt : goal.returns-in-Dealt
unfolding turn_line letters
returns-in-Dealt c = rw (c.in-Ok.is, c.in-Dealt.is) (puts_dealt _ _ _ c.put_line-in-Dealt.ensures refl refl c.from-in-Dealt.ensures refl)
