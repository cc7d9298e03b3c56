-- Laws of `part` and `bitonic` at a width w = 2^k whose half is w / 2: places lie below the width, and a layer's array by that of
-- half the width. Assumes nothing.
use mathlib.Core.Path.{◌≡◌, refl, sym, ◌∙◌}
use mathlib.Core.Bool.{Bool, true, false, cond}
use mathlib.Core.List.{List}
use Prim.Native.Nat.{ℕ, zero, suc, ◌+◌, ◌-◌, ◌*◌, ◌^◌, ◌<◌, ◌≤◌}
use native.Mathlib.Nat.{two-pow-succ}
use native.Mathlib.Omega.{arith}
use lib.Pow.{pow_pos, pow_mono}
use lib.Dec.{ltb, eqb}
use lib.ListN.{get_or}
use borrow.Author.Tests.{lt-ltb, le-ltb, eq-eqb, ne_eqb}
use Rattle.network.specs.declared.Feed.{Feed}
use Rattle.network.specs.declared.Feed.TheVariants.{Merger, Beside}
use Rattle.network.specs.Widths.{depth_b}
use Rattle.network.specs.Wiring.{fed_of, feed_at, last_at, part, bitonic}
use Rattle.network.specs.Rows.{array_of}
use Rattle.network.proofs.Arrays.{array_is, tabulate_ext}
use Rattle.network.proofs.Widths.{cond_le}
use Rattle.network.proofs.Feeds.{fed_most, feed_below, feed_same, last_below, last_most}

cond_below : (b : Bool) {x y n : ℕ} → x < n → y < n → cond b x y < n
cond_below true p q = p
cond_below false p q = q

-- ---- places lie below the width
pub part_below : (s : Feed) (k L v : ℕ) → v < 2 ^ k → part s k L v < 2 ^ k
unfolding part
part_below s zero L v l = l
part_below s (suc j) L v l =
    let l₂ : v < 2 * 2 ^ j = omega (arith, two-pow-succ j) in
    let below = cond_below (eqb L j) (last_below (2 ^ j) v l₂) (feed_below (cond (eqb L 0) s Beside) (2 ^ j) (part s j L) (part_below s j L) v l₂) in
    omega (arith, two-pow-succ j, below)

pub bitonic_below : (k L v : ℕ) → v < 2 ^ k → bitonic k L v < 2 ^ k
unfolding bitonic
bitonic_below zero L v l = l
bitonic_below (suc j) L v l =
    let l₂ : v < 2 * 2 ^ j = omega (arith, two-pow-succ j) in
    let beside = feed_below Beside (2 ^ j) (bitonic j L) (bitonic_below j L) v l₂ in
    cond_below (ltb L (depth_b j)) (omega (arith, two-pow-succ j, beside)) (part_below Merger (suc j) (L - depth_b j) v l)

-- ---- a place of any number is small
pub part_most : (s : Feed) (k L v : ℕ) → part s k L v ≤ 2 * v + 2 ^ k
unfolding part feed_at
part_most s zero L v = omega arith
part_most s (suc j) L v =
    let t = cond (eqb L 0) s Beside in
    let inner = part_most s j L (fed_of t (2 ^ j) v).wire in
    let fed = fed_most t (2 ^ j) v in
    let some : 0 < 2 ^ suc j = pow_pos (suc j) in
    cond_le (eqb L j) (omega (arith, last_most (2 ^ j) v))
    (cond_le (fed_of t (2 ^ j) v).second (omega (arith, two-pow-succ j)) (omega (arith, two-pow-succ j)))

pub bitonic_most : (k L v : ℕ) → bitonic k L v ≤ 2 * v + 2 ^ k
unfolding bitonic feed_at
bitonic_most zero L v = omega arith
bitonic_most (suc j) L v =
    let inner = bitonic_most j L (fed_of Beside (2 ^ j) v).wire in
    let fed = fed_most Beside (2 ^ j) v in
    cond_le (ltb L (depth_b j))
    (cond_le (fed_of Beside (2 ^ j) v).second (omega (arith, two-pow-succ j)) (omega (arith, two-pow-succ j)))
    (part_most Merger (suc j) (L - depth_b j) v)

-- so at a width of at most 64, and of a wire of 16 bits
pub part_fits : (s : Feed) (k L v : ℕ) → k ≤ 6 → v ≤ 65535 → part s k L v ≤ 200000
part_fits s k L v few small =
    let most : 2 ^ k ≤ 2 ^ 6 = pow_mono few in
    omega (arith, part_most s k L v)

pub bitonic_fits : (k L v : ℕ) → k ≤ 6 → v ≤ 65535 → bitonic k L v ≤ 200000
bitonic_fits k L v few small =
    let most : 2 ^ k ≤ 2 ^ 6 = pow_mono few in
    omega (arith, bitonic_most k L v)

-- ---- rows in arrays
-- the same row under another name and another count
pub array_as : (f g : ℕ → ℕ) {n m : ℕ} → n ≡ m → ((v : ℕ) → v < m → f v ≡ g v) → array_of f n ≡ array_of g m
unfolding array_of
array_as f g {n} {m} e h = rw (e, tabulate_ext f g m h)

-- an inner row, and the row of the two halves that it feeds
inner_is : (f : ℕ → ℕ) (n : ℕ) {a : List ℕ} → a ≡ array_of f n → (i : ℕ) → i < n → get_or a i 0 ≡ f i
inner_is f n e i l = rw e ((array_is f n).at i l)

-- ---- at a width of no levels wires go straight on
pub part_none : (s : Feed) (k L v : ℕ) → k ≡ 0 → part s k L v ≡ v
unfolding part
part_none s k L v e = rw e

pub bitonic_none : (k L v : ℕ) → k ≡ 0 → bitonic k L v ≡ v
unfolding bitonic
bitonic_none k L v e = rw e

-- and a width of some: the last layer, and an earlier one by the part of half the width
pub part_some : (s : Feed) (k L v : ℕ) → 0 < k → part s k L v ≡ cond (eqb L (k - 1)) (last_at (2 ^ (k - 1)) v) (feed_at (cond (eqb L 0) s Beside) (2 ^ (k - 1)) (part s (k - 1) L) v)
unfolding part
part_some s zero L v l = absurd (omega arith)
part_some s (suc j) L v l = let e : suc j - 1 ≡ j = omega arith in rw e

pub bitonic_some : (k L v : ℕ) → 0 < k → bitonic k L v ≡ cond (ltb L (depth_b (k - 1))) (feed_at Beside (2 ^ (k - 1)) (bitonic (k - 1) L) v) (part Merger k (L - depth_b (k - 1)) v)
unfolding bitonic
bitonic_some zero L v l = absurd (omega arith)
bitonic_some (suc j) L v l = let e : suc j - 1 ≡ j = omega arith in rw e

-- ---- MERGER and BLOCK of k levels and w wires, by the half of j levels and h wires
module _ (s : Feed) (j k h w L : ℕ) (some : 0 < k) (e : j ≡ k - 1) (q : h ≡ 2 ^ j) (d : 2 * h ≡ w) where
  part_at : (v : ℕ) → part s k L v ≡ cond (eqb L j) (last_at h v) (feed_at (cond (eqb L 0) s Beside) h (part s j L) v)
  part_at v = rw (q, e) (part_some s k L v some)

  -- a wire in an earlier layer, by its place at half the width
  pub part_fed_at : (t : Feed) → (L ≡ j → ⊥) → t ≡ cond (eqb L 0) s Beside → (v : ℕ) → feed_at t h (part s j L) v ≡ part s k L v
  part_fed_at t n p v = sym (rw (ne_eqb L j n, ← p) at (part_at v))

  -- the row of the last layer
  pub part_last : L ≡ j → array_of (last_at h) (2 * h) ≡ array_of (part s k L) w
  part_last is = array_as (last_at h) (part s k L) d (λ v m. sym (rw (eq-eqb L j is) at (part_at v)))

  module _ (inner : List ℕ) (is : inner ≡ array_of (part s j L) h) where
    -- the row of half the width has its places below the half
    pub part_inner : (i : ℕ) → i < h → get_or inner i 0 < h
    part_inner i m = rw (inner_is (part s j L) h is i m, q) (part_below s j L i (rw q at m))

    -- an earlier layer, by the row of half the width
    pub part_fed : (t : Feed) → (L ≡ j → ⊥) → t ≡ cond (eqb L 0) s Beside → array_of (feed_at t h (λ i. get_or inner i 0)) (2 * h) ≡ array_of (part s k L) w
    part_fed t n p =
        array_as (feed_at t h (λ i. get_or inner i 0)) (part s k L) d
        (λ v m.
        feed_same t h (λ i. get_or inner i 0) (part s j L) (inner_is (part s j L) h is) v (omega arith)
        ∙ part_fed_at t n p v)

-- ---- BITONIC, whose half has b layers
module _ (j k h w L b : ℕ) (some : 0 < k) (e : j ≡ k - 1) (q : h ≡ 2 ^ j) (d : 2 * h ≡ w) (layers : b ≡ depth_b j) where
  bitonic_at : (v : ℕ) → bitonic k L v ≡ cond (ltb L b) (feed_at Beside h (bitonic j L) v) (part Merger k (L - b) v)
  bitonic_at v = rw (layers, q, e) (bitonic_some k L v some)

  -- a wire in a layer of the two halves, by its place at half the width
  pub bitonic_fed_at : L < b → (v : ℕ) → feed_at Beside h (bitonic j L) v ≡ bitonic k L v
  bitonic_fed_at low v = sym (rw (lt-ltb L b low) at (bitonic_at v))

  module _ (low : L < b) (inner : List ℕ) (is : inner ≡ array_of (bitonic j L) h) where
    pub bitonic_inner : (i : ℕ) → i < h → get_or inner i 0 < h
    bitonic_inner i m = rw (inner_is (bitonic j L) h is i m, q) (bitonic_below j L i (rw q at m))

    -- a layer of the two halves
    pub bitonic_fed : array_of (feed_at Beside h (λ i. get_or inner i 0)) (2 * h) ≡ array_of (bitonic k L) w
    bitonic_fed =
        array_as (feed_at Beside h (λ i. get_or inner i 0)) (bitonic k L) d
        (λ v m.
        feed_same Beside h (λ i. get_or inner i 0) (bitonic j L) (inner_is (bitonic j L) h is) v (omega arith)
        ∙ bitonic_fed_at low v)

  -- the layers after the halves are the merger's
  pub bitonic_merged : b ≤ L → array_of (part Merger k (L - b)) w ≡ array_of (bitonic k L) w
  bitonic_merged high =
      array_as (part Merger k (L - b)) (bitonic k L) refl (λ v m. sym (rw (le-ltb L b high) at (bitonic_at v)))
