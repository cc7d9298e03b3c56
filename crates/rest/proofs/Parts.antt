-- MERGER and BLOCK at rest, as crate `network` wires them: two of half the width, then one layer of cells. In order: what they
-- make of counts, and their sum; their rows; the two of half the width; the step property from those two.
-- Assumes nothing.
use Prim.Native.Nat.{ℕ, zero, suc, ◌+◌, ◌*◌, ◌/◌, ◌%◌, ◌^◌, ◌≤◌, ◌<◌}
use mathlib.Core.Path.{◌≡◌, refl, ap, ap₂, sym, ◌∙◌}
use mathlib.Core.Bool.{true, false}
use mathlib.Core.Logic.{◌≢◌}
use native.Mathlib.Nat.{pow-succ'}
use native.Mathlib.Omega.{arith}
use lib.Pow.{pow_pos}
use borrow.Author.Tests.{lt-ltb, le-ltb, eq-eqb, ne_eqb}
use Rattle.network.specs.declared.Feed.{Feed}
use Rattle.network.specs.declared.Feed.TheVariants.{Beside}
use Rattle.network.specs.Wiring.{feed_at, last_at, part}
use Rattle.network.proofs.Once.{once_part}
use Rattle.rest.specs.Sum.{sum}
use Rattle.rest.specs.Flow.{outlet, layer, flow}
use Rattle.rest.proofs.Flow.{sum_flow}
use Rattle.rest.specs.Rest.{Step}
use Rattle.rest.proofs.Step.{join, join_step, step_ext}
use Rattle.rest.proofs.Layers.{level_of, csum_once, Both, Takes, layer_fed, flow_beside}

-- what MERGER[2^k] or BLOCK[2^k] makes of the counts x
abbrev pub passed : Feed → ℕ → (ℕ → ℕ) → ℕ → ℕ
passed s k x = level_of (2 ^ k) (part s k) x k

-- it keeps the sum
pub sum_passed : (s : Feed) (k : ℕ) (x : ℕ → ℕ) → sum (2 ^ k) (passed s k x) ≡ sum (2 ^ k) x
unfolding flow
sum_passed s zero x = refl
sum_passed s (suc k) x =
    sum_flow (2 ^ k) (2 ^ suc k) (λ L v. part s (suc k) L v / 2) x (suc k) (pow-succ' 2 k)
    (λ L v l m. omega (arith, (once_part s (suc k) L).below v m))

part_last : (s : Feed) (k v : ℕ) → part s (suc k) k v ≡ last_at (2 ^ k) v
unfolding part
part_last s k v = rw (eq-eqb k k refl)

part_first : (s : Feed) (k v : ℕ) → k ≢ 0 → part s (suc k) 0 v ≡ feed_at s (2 ^ k) (part s k 0) v
unfolding part
part_first s k v n = rw (ne_eqb 0 k (λ e. n (sym e)))

part_beside : (s : Feed) (k L v : ℕ) → L ≢ 0 → L ≢ k → part s (suc k) L v ≡ feed_at Beside (2 ^ k) (part s k L) v
unfolding part
part_beside s k L v n m = rw (ne_eqb L k m, ne_eqb L 0 n)

-- two of half the width, then a layer whose cell i takes output i of each
module _ (s : Feed) (j : ℕ) (x a b : ℕ → ℕ) (takes : Takes s (2 ^ suc j) x a b) where
  -- level L of the whole, and of one of the two
  abbrev whole : ℕ → ℕ → ℕ
  whole = level_of (2 ^ suc (suc j)) (part s (suc (suc j))) x

  abbrev half : (ℕ → ℕ) → ℕ → ℕ → ℕ
  half = level_of (2 ^ suc j) (part s (suc j))

  twice : 2 ^ suc (suc j) ≡ 2 * 2 ^ suc j
  twice = pow-succ' 2 (suc j)

  first : Both (2 ^ suc j) (whole 1) (half a 1) (half b 1)
  unfolding flow
  first =
      layer_fed (2 ^ suc (suc j)) (2 ^ suc j) twice (omega arith) s (part s (suc j) 0) (part s (suc (suc j)) 0) (once_part s (suc j) 0)
      (once_part s (suc (suc j)) 0) (λ v. part_first s (suc j) v (omega arith)) x a b takes

  halves : Both (2 ^ suc j) (whole (suc j)) (half a (suc j)) (half b (suc j))
  halves =
      flow_beside (2 ^ suc (suc j)) (2 ^ suc j) twice (part s (suc j)) (part s (suc (suc j))) (once_part s (suc j)) (once_part s (suc (suc j))) x a b
      1 (suc j) (omega arith) first (λ L p q. (omega arith, λ v. part_beside s (suc j) L v (omega arith) (omega arith)))

  pub passed_join : (i : ℕ) → i < 2 ^ suc (suc j) → passed s (suc (suc j)) x i ≡ join (passed s (suc j) a) (passed s (suc j) b) i
  unfolding flow layer
  passed_join i l =
      let lower : part s (suc (suc j)) (suc j) (i / 2) ≡ 2 * (i / 2) = part_last s (suc j) (i / 2) ∙ rw (lt-ltb (i / 2) (2 ^ suc j) (omega arith)) in
      let upper : part s (suc (suc j)) (suc j) (2 ^ suc j + i / 2) ≡ 2 * (i / 2) + 1 =
      part_last s (suc j) (2 ^ suc j + i / 2) ∙ rw (le-ltb (2 ^ suc j + i / 2) (2 ^ suc j) (omega arith)) (omega arith) in
      ap (outlet (i % 2))
      (csum_once (2 ^ suc (suc j)) (part s (suc (suc j)) (suc j)) (once_part s (suc (suc j)) (suc j)) (whole (suc j)) (i / 2) (i / 2) (2 ^ suc j + i / 2)
      (omega arith) (omega arith) lower upper
      ∙ ap₂ ◌+◌ (halves false (i / 2) (omega arith)) (halves true (i / 2) (omega arith)))

-- width 2: one cell
pub passed_one : (s : Feed) (x : ℕ → ℕ) (i : ℕ) → i < 2 → passed s 1 x i ≡ outlet (i % 2) (x 0 + x 1)
unfolding flow layer part
passed_one s x i l =
    let only-cell : i / 2 ≡ 0 = omega arith in
    ap (outlet (i % 2)) (rw only-cell (csum_once 2 (part s 1 0) (once_part s 1 0) x 0 0 1 (omega arith) (omega arith) refl refl))

-- one cell has the step property, whatever comes
pub step_one : (s : Feed) (x : ℕ → ℕ) → Step (2 ^ 1) (passed s 1 x)
step_one s x i j l m = omega (arith, passed_one s x i (omega arith), passed_one s x j m)

-- where the two have it, and their sums differ by at most one, the whole has it
pub step_two : (s : Feed) (j : ℕ) (x a b : ℕ → ℕ) → Takes s (2 ^ suc j) x a b → Step (2 ^ suc j) (passed s (suc j) a)
    → Step (2 ^ suc j) (passed s (suc j) b) → sum (2 ^ suc j) a ≤ sum (2 ^ suc j) b + 1 → sum (2 ^ suc j) b ≤ sum (2 ^ suc j) a + 1
    → Step (2 ^ suc (suc j)) (passed s (suc (suc j)) x)
step_two s j x a b takes step-a step-b h l =
    step_ext (2 ^ suc (suc j)) (join (passed s (suc j) a) (passed s (suc j) b)) (passed s (suc (suc j)) x) (passed_join s j x a b takes)
    (rw (pow-succ' 2 (suc j)) (join_step (2 ^ suc j) (pow_pos (suc j)) (passed s (suc j) a) (passed s (suc j) b) step-a step-b
    (rw (sum_passed s (suc j) a, sum_passed s (suc j) b) h) (rw (sum_passed s (suc j) a, sum_passed s (suc j) b) l)))
