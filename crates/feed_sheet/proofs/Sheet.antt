-- Laws of a lent sheet. In order: its rows, one after another; a sheet that is not refused. Assumes nothing.
use mathlib.Core.Path.{◌≡◌, refl}
use mathlib.Core.Bool.{Bool, true, false, ◌&&◌, and-true, and_assoc}
use mathlib.Core.List.{List}
use Prim.Native.Nat.{ℕ, zero, suc, ◌+◌, ◌-◌, ◌*◌, ◌/◌, ◌<◌, ◌≤◌}
use native.Mathlib.Nat.{mul-le-mul}
use native.Mathlib.Decide.{ℕ_discrete}
use native.Mathlib.Omega.{arith}
use lib.ListN.{length, get_or, length-take, length-drop}
use lib.Seq.{get_or-take, get_or-drop}
use Rattle.std.specs.List.{list_all, range_with_len}
use Rattle.std.proofs.lemmas.Bool.Decides.{nat_tests}
use Rattle.order.specs.Order.{first_of}
use Rattle.network.proofs.Rows.{row_end}
use Rattle.network.proofs.Once.{Once}
use Rattle.board.proofs.Lists.{and_left, and_right}
use Rattle.feed_sheet.specs.Limits.{in_limits, permutation}
use Rattle.feed_sheet.specs.Sheet.{unpaired, fed_at, row_at, rows_ok, feed_no}
use Rattle.feed_sheet.proofs.Permutations.{permutation_once}

-- ---- the rows judged in order
pub row_wide : (w L : ℕ) → (L + 1) * w - L * w ≡ w
row_wide w L = grind arith

all_more : (test : ℕ → Bool) (n a j : ℕ) → a + n ≡ j → list_all test (range_with_len a (suc n)) ≡ (list_all test (range_with_len a n) && test j)
all_more test zero a j e = let f : a ≡ j = omega arith in rw (f, and-true)
all_more test (suc n) a j e = rw (all_more test n (a + 1) j (omega arith), and_assoc)

pub rows_ok_list : (w : ℕ) (sheet : List ℕ) (n : ℕ) → list_all (λ L. permutation (row_at w sheet L)) (range_with_len 0 n) ≡ rows_ok w sheet n
unfolding rows_ok
rows_ok_list w sheet zero = refl
rows_ok_list w sheet (suc n) =
    rw (all_more (λ L. permutation (row_at w sheet L)) n 0 n (omega arith), rows_ok_list w sheet n)

-- ---- what a width and a depth have, of a sheet or of a record
pub record Within (w d : ℕ) : Type 0 where
  pub some : 1 ≤ w
  pub wide : w ≤ 64
  pub deep : d ≤ 36

pub within_limits : (w d : ℕ) → in_limits w d ≡ true → Within w d
within_limits w d h =
    record { some = grind (arith, nat_tests); wide = grind (arith, nat_tests); deep = grind (arith, nat_tests) }

pub record Sized (w d : ℕ) : Type 0 where
  pub within : Within w d
  pub even : 0 < d → w ≡ 2 * (w / 2)

pub sized : (w d : ℕ) → in_limits w d ≡ true → unpaired w d ≡ false → Sized w d
unfolding unpaired
sized w d size pairs = record { within = within_limits w d size; even = λ l. grind (arith, nat_tests) }

-- the cells of at most 36 layers at width at most 64 have their toggles
pub sized_room : {w d : ℕ} → Sized w d → d * (w / 2) ≤ 1152
sized_room {w} {d} s =
    mul-le-mul {n₁ = d} {m₁ = w / 2} {n₂ = 36} {m₂ = 32} s.within.deep (omega (arith, s.within.wide))

-- ---- a sheet that is not refused
pub record Judged (w d : ℕ) (sheet : List ℕ) : Type 0 where
  pub size : in_limits w d ≡ true
  pub pairs : unpaired w d ≡ false
  pub long : (d + 1) * w ≤ length sheet
  pub rows : rows_ok w sheet (d + 1) ≡ true

pub judged : (w d : ℕ) (sheet : List ℕ) → feed_no w d sheet ≡ 0 → Judged w d sheet
unfolding feed_no first_of
judged w d sheet h = record {
  size = grind (arith, nat_tests);
  pairs = grind (arith, nat_tests);
  long = grind (arith, nat_tests);
  rows = grind (arith, nat_tests);
}

rows_at : (w : ℕ) (sheet : List ℕ) (n : ℕ) → rows_ok w sheet n ≡ true → (L : ℕ) → L < n → permutation (row_at w sheet L) ≡ true
unfolding rows_ok
rows_at w sheet zero h L l = absurd (omega arith)
rows_at w sheet (suc n) h L l = elim (ℕ_discrete L n) [
  | yes e ↦ rw e (and_right (rows_ok w sheet n) (permutation (row_at w sheet n)) h)
  | no m ↦ rows_at w sheet n (and_left (rows_ok w sheet n) (permutation (row_at w sheet n)) h) L (omega arith)
]

-- and back: rows that are each permutations
pub rows_each : (w : ℕ) (sheet : List ℕ) (n : ℕ) → ((L : ℕ) → L < n → permutation (row_at w sheet L) ≡ true) → rows_ok w sheet n ≡ true
unfolding rows_ok
rows_each w sheet zero h = refl
rows_each w sheet (suc n) h = rw (rows_each w sheet n (λ L l. h L (omega arith)), h n (omega arith))

module _ {w d : ℕ} {sheet : List ℕ} (j : Judged w d sheet) (L : ℕ) (level : L ≤ d) where
  fits : L * w + w ≤ length sheet
  fits = omega (arith, row_end L (d + 1) w (omega arith), j.long)

  row_long : length (row_at w sheet L) ≡ w
  row_long = simp (length-take, length-drop) (omega (arith, fits))

  pub row_at_lem : (v : ℕ) → v < w → get_or (row_at w sheet L) v 0 ≡ fed_at w sheet L v
  unfolding fed_at
  row_at_lem v l = rw (get_or-take, get_or-drop)

  -- the row holds every number below w once
  pub fed_once : Once w (fed_at w sheet L)
  fed_once =
      let row = row_at w sheet L in
      let o : Once w (λ v. get_or row v 0) = rw row_long at (permutation_once row (rows_at w sheet (d + 1) j.rows L (omega arith))) in
      record {
        below = λ v l. rw (← row_at_lem v l) (o.below v l);
        wire = o.wire;
        wire_below = o.wire_below;
        there = λ p l. rw (← row_at_lem (o.wire p) (o.wire_below p l)) (o.there p l);
        back = λ v l. rw (← row_at_lem v l) (o.back v l);
      }
