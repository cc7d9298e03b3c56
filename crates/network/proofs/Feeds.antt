-- Laws of the feeds: a wire of 2h goes to a wire below h, and what is fed by rows below h lies below 2h.
-- Assumes nothing.
use mathlib.Core.Path.{◌≡◌, ap}
use mathlib.Core.Bool.{Bool, cond}
use mathlib.Core.Logic.{◌⊎◌}
use Prim.Native.Nat.{ℕ, ◌+◌, ◌*◌, ◌<◌, ◌≤◌}
use native.Mathlib.Omega.{arith}
use Rattle.std.proofs.lemmas.Bool.{cases_lt}
use Rattle.std.proofs.lemmas.Bool.Decides.{nat_tests}
use Rattle.network.specs.declared.Feed.{Feed}
use Rattle.network.specs.declared.Feed.TheVariants.{Merger, Block, Beside}
use Rattle.network.specs.Wiring.{fed_of, feed_at, last_at}

pub lt_or_le : (a b : ℕ) → (a < b) ⊎ (b ≤ a)
lt_or_le = cases_lt

pub fed_below : (s : Feed) (h v : ℕ) → v < 2 * h → (fed_of s h v).wire < h
fed_below Block h v l = omega arith
fed_below Beside h v l = grind (arith, nat_tests)
fed_below Merger h v l = grind (arith, nat_tests)

-- and any number to one that is no larger
pub fed_most : (s : Feed) (h v : ℕ) → (fed_of s h v).wire ≤ v
fed_most Block h v = omega arith
fed_most Beside h v = grind (arith, nat_tests)
fed_most Merger h v = grind (arith, nat_tests)

-- a place that is fed by a row whose places lie below h
through_below : (h x : ℕ) (t : Bool) → x < h → cond t (h + x) x < 2 * h
through_below h x t l = grind arith

pub feed_below : (s : Feed) (h : ℕ) (f : ℕ → ℕ) → ((i : ℕ) → i < h → f i < h) → (v : ℕ) → v < 2 * h → feed_at s h f v < 2 * h
unfolding feed_at
feed_below s h f b v l = through_below h (f (fed_of s h v).wire) (fed_of s h v).second (b _ (fed_below s h v l))

-- rows that agree below h feed the same places
pub feed_same : (s : Feed) (h : ℕ) (f g : ℕ → ℕ) → ((i : ℕ) → i < h → f i ≡ g i) → (v : ℕ) → v < 2 * h → feed_at s h f v ≡ feed_at s h g v
unfolding feed_at
feed_same s h f g e v l = ap (λ (x : ℕ). cond (fed_of s h v).second (h + x) x) (e _ (fed_below s h v l))

pub last_below : (h v : ℕ) → v < 2 * h → last_at h v < 2 * h
last_below h v l = grind (arith, nat_tests)

pub last_most : (h v : ℕ) → last_at h v ≤ 2 * v + 1
last_most h v = grind (arith, nat_tests)
