-- `console_lines::input::next_line` is safe: what is held stays within the buffer. Assumes nothing.
use Prim.Native.Nat.{◌≤◌}
use lib.ListN.{length}
use Rattle.console_lines.proofs.input.next_line.Given as goal

abbrev pub invariant-loop : goal.invariant-loop
invariant-loop g l = l.lines.to ≤ length l.input
