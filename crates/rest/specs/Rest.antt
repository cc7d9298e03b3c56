-- Both builds count (000, 2.1 and Theorems 3.6 and 4.4), at every width w = 2^k, as the sheets of crate `network` wire them.
-- Definitions and the statement only; `counts` of proofs/Rest proves it. Assumes nothing.
use Rattle.std.specs.Prelude.{◌≡◌, ℕ, ◌+◌, ◌/◌, ◌^◌, ◌<◌, ◌≤◌}
use Rattle.network.specs.Widths.{depth}
use Rattle.network.specs.Wiring.{place}
use Rattle.rest.specs.Sum.{sum}
use Rattle.rest.specs.Flow.{flow}
use Rattle.rest.specs.Share.{share}

-- the step property of w counts: 0 ≤ x i - x j ≤ 1 for i < j
abbrev pub Step : ℕ → (ℕ → ℕ) → Type 0
Step w x = (i j : ℕ) → i < j → j < w → (x j ≤ x i) × (x i ≤ x j + 1)

-- the exit counts at rest of construction c at width 2^k, of the entry counts x
abbrev pub exits : ℕ → ℕ → (ℕ → ℕ) → ℕ → ℕ
exits c k x = flow (2 ^ k) (λ L v. place c k L v / 2) x (depth c k)

-- whatever entered: each exit has its share of all of it; the exits have the step property; no token is lost or made; and
-- with more on the entry wires no exit has fewer
pub record Counts (c k : ℕ) : Type 0 where
  pub shares : (x : ℕ → ℕ) (i : ℕ) → i < 2 ^ k → exits c k x i ≡ share (sum (2 ^ k) x) i (2 ^ k)
  pub step : (x : ℕ → ℕ) → Step (2 ^ k) (exits c k x)
  pub kept : (x : ℕ → ℕ) → sum (2 ^ k) (exits c k x) ≡ sum (2 ^ k) x
  pub more : (x y : ℕ → ℕ) → ((v : ℕ) → v < 2 ^ k → x v ≤ y v) → (i : ℕ) → i < 2 ^ k → exits c k x i ≤ exits c k y i
