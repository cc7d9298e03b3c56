-- Laws of the walks over the exits and over the numbers. In order: the shares are small; a number more is written; the walk over
-- the numbers. Assumes nothing.
use Prim.Native.Nat.{ℕ, suc, ◌+◌, ◌-◌, ◌/◌, ◌%◌, ◌≤◌, ◌<◌}
use mathlib.Core.Path.{◌≡◌, refl, ap}
use mathlib.Core.List.{List, [], ◌∷◌, ◌++◌, append_assoc}
use native.Mathlib.Nat.{div-le_self}
use native.Mathlib.Omega.{arith}
use native.Mathlib.Numerals.{add-one}
use borrow.Author.Tests.{le-leb, lt-leb}
use lib.ListN.{length, set, length-append, length-set}
use lib.Seq.{drop-cons, set-append_seam}
use Rattle.order.specs.Order.{over}
use Rattle.board.specs.declared.Board.{Board}
use Rattle.board.specs.Board.{count_at}
use Rattle.rest.specs.Share.{share}
use Rattle.gaps.specs.Gaps.{missing, gaps_below}
use Rattle.gaps.proofs.Gaps.{gaps_more, gaps_same, length_gaps_mono}

-- ---- the shares are small
pub share_small : (n i w : ℕ) → share n i w ≤ n + w
unfolding share
share_small n i w = omega (arith, div-le_self (n - i + (w - 1)) w)

-- ---- a number more is written
pub over_more : (l out : List ℕ) (v : ℕ) → length l < length out → set (over l out) (length l) v ≡ over (l ++ (v ∷ [])) out
over_more l out v h = rw (drop-cons out (length l) 0 h, set-append_seam) (simp (length-append, append_assoc, add-one))

-- ---- the walk over the numbers: those below v are passed, and of them the missing ones stand in front of what was lent
pub record Walked (w : ℕ) (x : Board) (lent : List ℕ) (at v : ℕ) (out : List ℕ) : Type 0 where
  pub count : at ≡ length (gaps_below w x v)
  pub written : out ≡ over (gaps_below w x v) lent
  pub long : length out ≡ length lent

pub walked_none : {w : ℕ} {x : Board} {lent : List ℕ} → Walked w x lent 0 0 lent
unfolding gaps_below
walked_none = record { count = refl; written = refl; long = refl }

module _ {w : ℕ} {x : Board} {n : ℕ} {lent : List ℕ} {at v : ℕ} {out : List ℕ} (room : length (gaps_below w x n) ≤ length lent) (h : Walked w x lent at v out) (more : v < n) where
  more_missing : count_at x (v % w) ≤ v / w → gaps_below w x (suc v) ≡ gaps_below w x v ++ (v ∷ [])
  unfolding missing
  more_missing m = gaps_more w x v (le-leb (count_at x (v % w)) (v / w) m)

  same_dealt : v / w < count_at x (v % w) → gaps_below w x (suc v) ≡ gaps_below w x v
  unfolding missing
  same_dealt m = gaps_same w x v (lt-leb (count_at x (v % w)) (v / w) m)

  -- a missing number has room
  pub walked_room : count_at x (v % w) ≤ v / w → at < length out
  walked_room m =
      omega (
        arith,
        length_gaps_mono w x (suc v) n more,
        ap length (more_missing m),
        length-append (gaps_below w x v) (v ∷ []),
      )

  pub walked_missing : count_at x (v % w) ≤ v / w → Walked w x lent (at + 1) (v + 1) (set out at v)
  walked_missing m =
      let fits : length (gaps_below w x v) < length lent = omega (arith, walked_room m) in
      record {
        count = rw (add-one v, more_missing m, length-append) (omega arith);
        written = rw (add-one v, more_missing m, h.written, h.count) (over_more (gaps_below w x v) lent v fits);
        long = simp length-set h.long;
      }

  pub walked_dealt : v / w < count_at x (v % w) → Walked w x lent at (v + 1) out
  walked_dealt m =
      record {
        count = rw (add-one v, same_dealt m) h.count;
        written = rw (add-one v, same_dealt m) h.written;
        long = h.long;
      }
