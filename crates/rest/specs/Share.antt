-- The share of an exit (01; 000, 2.1). Definitions only. Assumes nothing.
use Rattle.std.specs.Prelude.{ℕ, ◌+◌, ◌-◌, ◌/◌}

-- the share of exit i of w in m tokens: (m - i)/w rounded up, and 0 where i is m or more
unfoldable pub share : ℕ → ℕ → ℕ → ℕ
share m i w = (m - i + (w - 1)) / w
