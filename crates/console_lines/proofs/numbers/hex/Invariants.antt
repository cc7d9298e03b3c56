-- `console_lines::numbers::hex` meets its contract. The invariant: the bytes passed are put. Assumes nothing.
use Prim.Native.Nat.{ℕ, ◌<◌}
use mathlib.Core.Path.{◌≡◌}
use lib.ListN.{get_or}
use Rattle.console_lines.specs.Hex.{hex_byte}
use Rattle.console_lines.proofs.numbers.hex.Given as goal

abbrev pub invariant-loop-i : goal.invariant-loop-i
invariant-loop-i l = (k : ℕ) → k < l.i → get_or l.out k 0 ≡ hex_byte l.text k
