-- `trace_text::put_turns` meets its contract. The loop's invariant: the lines of the records left, put where the text has got to, give
-- the whole. The measure is the bytes left. Assumes nothing.
use Prim.Native.Nat.{◌-◌}
use lib.ListN.{length}
use Rattle.trace_text.proofs.Lines.{Going}
use Rattle.trace_text.proofs.put_turns.Given as goal

abbrev pub invariant-turns : goal.invariant-turns
invariant-turns l = Going l.bytes l.at l.initial.out l.run l.next l.from l.out

abbrev pub decreases-turns : goal.decreases-turns
decreases-turns l = length l.bytes - l.from
