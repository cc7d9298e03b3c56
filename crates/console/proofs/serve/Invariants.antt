-- `console::serve` is safe: what the buffers hold stays within them. Assumes nothing.
use Rattle.std.proofs.Common.{◌≤◌, length}
use Rattle.console.proofs.serve.Given as goal

abbrev pub invariant-loop : goal.invariant-loop
invariant-loop g l = (l.before.to ≤ length l.input) × (l.holding.fed ≤ length l.sheet)
