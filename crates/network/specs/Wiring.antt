-- The wiring of both builds (01, "Wiring"), by recursion on k, w = 2^k. A row is a function: wire v of level L feeds the
-- place 2c + s, inlet s of cell c of layer L. Definitions only. Assumes nothing.
use Rattle.std.specs.Prelude.{ℕ, zero, suc, ◌+◌, ◌-◌, ◌*◌, ◌/◌, ◌%◌, ◌^◌, Bool, true, false, not, cond, ltb, eqb}
use Rattle.network.specs.declared.Feed.{Feed}
use Rattle.network.specs.declared.Feed.TheVariants.{Beside, Merger, Block}
use Rattle.network.specs.declared.Fed.{Fed}
use Rattle.network.specs.Widths.{depth_b}

-- wire v of the second of two networks where b holds, of the first where it does not
abbrev pub to : Bool → ℕ → Fed
to b v = record { second = b; wire = v }

abbrev pub even : ℕ → Bool
even v = eqb (v % 2) 0

abbrev pub odd : ℕ → Bool
odd v = eqb (v % 2) 1

-- Before two networks of width h, which of the two takes wire v of the 2h, and on which of its wires.
--   Beside: the first takes the lower half of the wires, the second the upper half.
--   Merger: the first takes the even places of the lower half x, then the odd places of the upper half x';
--           the second takes the odd places of x, then the even places of x'.
--   Block:  the first takes the wires whose two low bits are 00 or 11, the second those with 01 or 10, in rising order.
abbrev pub fed_of : Feed → ℕ → ℕ → Fed
fed_of Beside h v = cond (ltb v h) (to false v) (to true (v - h))
fed_of Merger h v = cond (ltb v h) (to (odd v) (v / 2)) (to (even (v - h)) (h / 2 + (v - h) / 2))
fed_of Block h v = to (not (eqb (v % 2) (v / 2 % 2))) (v / 2)

-- the place that a wire feeds through a layer of the two, whose row is f: the first part's cells come first
abbrev pub through : ℕ → (ℕ → ℕ) → Fed → ℕ
through h f x = cond x.second (h + f x.wire) (f x.wire)

unfoldable pub feed_at : Feed → ℕ → (ℕ → ℕ) → ℕ → ℕ
feed_at s h f v = through h f (fed_of s h v)

-- the last layer: output i of the first goes to inlet 0 of cell i, output i of the second to inlet 1
abbrev pub last_at : ℕ → ℕ → ℕ
last_at h v = cond (ltb v h) (2 * v) (2 * (v - h) + 1)

-- layer L of MERGER[2^k] or of BLOCK[2^k]: the first layer takes the wires as the feed says, further layers are those of
-- the two of half the width side by side, and layer k - 1 is the last. At width 2 the last layer is the one cell, wires in order.
unfoldable pub part : Feed → ℕ → ℕ → ℕ → ℕ
part s zero L v = v
part s (suc j) L v = cond (eqb L j) (last_at (2 ^ j) v) (feed_at (cond (eqb L 0) s Beside) (2 ^ j) (part s j L) v)

-- BITONIC[2^k]: two of half the width side by side, then the merger
unfoldable pub bitonic : ℕ → ℕ → ℕ → ℕ
bitonic zero L v = v
bitonic (suc j) L v = cond (ltb L (depth_b j)) (feed_at Beside (2 ^ j) (bitonic j L) v) (part Merger (suc j) (L - depth_b j) v)

-- PERIODIC[2^k]: k copies of the block, of k layers each
unfoldable pub periodic : ℕ → ℕ → ℕ → ℕ
periodic k L v = part Block k (L % k) v

-- construction c
unfoldable pub place : ℕ → ℕ → ℕ → ℕ → ℕ
place c k L v = cond (eqb c 1) (bitonic k L v) (periodic k L v)
