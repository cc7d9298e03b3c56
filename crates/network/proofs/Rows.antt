-- Laws of rows and sheets as callers read them: each row holds every number below the width once, two wires feed each cell, and
-- the bytes of a row and of a sheet. Assumes nothing.
use mathlib.Core.Path.{◌≡◌, sym, ap, ◌∙◌, subst}
use mathlib.Core.List.{List, ◌++◌, append_assoc}
use Prim.Native.Nat.{ℕ, zero, suc, ◌+◌, ◌-◌, ◌*◌, ◌/◌, ◌<◌, ◌≤◌}
use native.Mathlib.Nat.{suc-mul, zero-mul, mul-le-mul}
use native.Mathlib.Numerals.{add-one}
use native.Mathlib.Omega.{arith}
use lib.ListN.{length, get_or, take, drop, length-append}
use lib.Seq.{take_at, drop_at, drop-drop}
use borrow.Author.Tests.{lt-ltb, le-ltb}
use Rattle.network.specs.Widths.{levels, depth_of}
use Rattle.network.specs.Wiring.{place}
use Rattle.network.specs.Rows.{tabulate, rows, place_of, array_of, row_array, sheet_of}
use Rattle.network.proofs.Arrays.{length_tabulate, array_is, take_array}
use Rattle.network.proofs.Widths.{layered}
use Rattle.network.proofs.Once.{Once, once}

-- ---- at a layer of a network
module _ (w c L : ℕ) (l : L < depth_of w c) where
  pub place_of_once : Once w (place_of w c L)
  unfolding place_of
  place_of_once =
      let e = (layered w c L l).power in
      subst (λ (n : ℕ). Once n (place c (levels w) L)) (sym e) (once c (levels w) L)

  -- two wires feed each cell: one by inlet 0, one by inlet 1, and they differ
  pub record Inlets (cell : ℕ) : Type 0 where
    pub top : ℕ
    pub bottom : ℕ
    pub top_wire : top < w
    pub bottom_wire : bottom < w
    pub top_feeds : place_of w c L top ≡ 2 * cell
    pub bottom_feeds : place_of w c L bottom ≡ 2 * cell + 1

  pub inlets : (cell : ℕ) → cell < w / 2 → Inlets cell
  inlets cell m =
      let o = place_of_once in
      let even = (layered w c L l).even in
      record {
        top = o.wire (2 * cell);
        bottom = o.wire (2 * cell + 1);
        top_wire = o.wire_below (2 * cell) (omega arith);
        bottom_wire = o.wire_below (2 * cell + 1) (omega arith);
        top_feeds = o.there (2 * cell) (omega arith);
        bottom_feeds = o.there (2 * cell + 1) (omega arith);
      }

  -- the row of a layer and the place of one wire by itself agree
  pub row_array_at : (v : ℕ) → v < w → get_or (row_array w c L) v 0 ≡ place_of w c L v
  unfolding row_array
  row_array_at v m = rw (lt-ltb L (depth_of w c) l) ((array_is (place_of w c L) w).at v m)

  pub row_array_is : array_of (place_of w c L) w ≡ row_array w c L
  unfolding row_array
  row_array_is = rw (lt-ltb L (depth_of w c) l)

  pub take_row_array : take w (row_array w c L) ≡ tabulate (place_of w c L) w
  unfolding row_array
  take_row_array = rw (lt-ltb L (depth_of w c) l) (take_array (place_of w c L) w)

  pub place_of_below : (v : ℕ) → v < w → place_of w c L v < w
  place_of_below = place_of_once.below

-- no such layer: zeros alone
pub row_array_none : (w c L : ℕ) → depth_of w c ≤ L → array_of (place_of w c L) 0 ≡ row_array w c L
unfolding row_array
row_array_none w c L l = rw (le-ltb L (depth_of w c) l)

-- ---- rows one after another
module _ (f : ℕ → ℕ → ℕ) (w : ℕ) where
  pub length_rows : (n : ℕ) → length (rows f w n) ≡ n * w
  unfolding rows
  length_rows zero = omega arith
  length_rows (suc n) = simp length-append (omega (arith, length_rows n, length_tabulate (f n) w, suc-mul n w))

  -- a part of w bytes put behind n rows, the bytes after it as they were
  pub rows_more : (n : ℕ) (s t p : List ℕ) → s ≡ rows f w n ++ drop (n * w) t → p ≡ tabulate (f n) w
      → take (n * w) s ++ (p ++ drop (n * w + w - n * w) (drop (n * w) s)) ≡ rows f w (n + 1) ++ drop ((n + 1) * w) t
  unfolding rows
  rows_more n s t p e d =
      let m : n * w + w - n * w ≡ w = omega arith in
      let o : (n + 1) * w ≡ n * w + w = ap (λ (x : ℕ). x * w) (add-one n) ∙ suc-mul n w in
      rw (
        e,
        take_at (rows f w n) (drop (n * w) t) (n * w) (length_rows n),
        drop_at (rows f w n) (drop (n * w) t) (n * w) (length_rows n),
        m,
        o,
        d,
        add-one n,
        append_assoc,
        drop-drop w (n * w) t,
      )

  pub rows_none : (s : List ℕ) → s ≡ rows f w 0 ++ drop (0 * w) s
  unfolding rows
  rows_none s = rw (zero-mul w)

-- a row ends before the sheet does
pub row_end : (L d w : ℕ) → L < d → L * w + w ≤ d * w
row_end L d w l = omega (arith, suc-mul L w, mul-le-mul {n₁ = suc L} {m₁ = w} {n₂ = d} {m₂ = w} l (omega arith))

pub length_sheet : (w c : ℕ) → length (sheet_of w c) ≡ depth_of w c * w
unfolding sheet_of
length_sheet w c = length_rows (place_of w c) w (depth_of w c)
