-- `network::filled` meets its contract: the bytes passed are the closure's, and zeros stand after them. Assumes nothing.
use Rattle.std.proofs.Common.{◌≡◌, ℕ, ◌≤◌, ◌<◌, get_or, length}
use Rattle.network.proofs.filled.Given as goal

abbrev pub invariant-loop-v : goal.invariant-loop-v
invariant-loop-v g l = record {
  long : length l.out ≡ 64;
  front : (k : ℕ) → k < l.v → goal.F-post g l.place k (get_or l.out k 0);
  rest : (k : ℕ) → l.v ≤ k → get_or l.out k 0 ≡ 0;
}
