-- Laws of the gap list: only the exit counts matter; one number more; how long the list is, by the shares of the exits.
-- Assumes nothing.
use Prim.Native.Nat.{ℕ, zero, suc, ◌+◌, ◌-◌, ◌/◌, ◌%◌, ◌≤◌, ◌<◌}
use mathlib.Core.Path.{◌≡◌, refl, ap, sym}
use mathlib.Core.Bool.{Bool, true, false, cond}
use mathlib.Core.List.{[], ◌∷◌, ◌++◌, append-nil}
use native.Mathlib.Nat.{mod-lt}
use native.Mathlib.Decide.{dec_le, ℕ_discrete}
use native.Mathlib.Omega.{arith}
use borrow.Author.Tests.{le-leb, lt-leb}
use lib.Dec.{leb}
use lib.ListN.{length, length-append}
use Rattle.board.specs.declared.Board.{Board}
use Rattle.board.specs.Board.{count_at}
use Rattle.rest.specs.Sum.{sum}
use Rattle.rest.specs.Share.{share}
use Rattle.rest.proofs.Sum.{sum_change, sum_zero}
use Rattle.rest.proofs.Share.{share_zero, share_other, share_own, share_at}
use Rattle.gaps.specs.Gaps.{missing, gaps_below}
use Rattle.gaps.specs.Counts.{of_counts}

-- what an exit with count c is short of q numbers, and of one more
short_suc : (c q : ℕ) → suc q - c ≡ q - c + cond (leb c q) 1 0
short_suc c q = elim (dec_le c q) [
  | yes h ↦ rw (le-leb c q h) (omega arith)
  | no h ↦ rw (lt-leb c q (omega arith)) (omega arith)
]

length_cond : (b : Bool) (n : ℕ) → length (cond b (n ∷ []) []) ≡ cond b 1 0
length_cond true n = refl
length_cond false n = refl

module _ (w : ℕ) (x : Board) where
  -- ---- only the exit counts matter
  pub gaps_counts : (n : ℕ) → gaps_below w (of_counts x.counts) n ≡ gaps_below w x n
  unfolding gaps_below missing count_at
  gaps_counts zero = refl
  gaps_counts (suc n) = rw (gaps_counts n)

  -- ---- one number more
  pub gaps_more : (n : ℕ) → missing w x n ≡ true → gaps_below w x (suc n) ≡ gaps_below w x n ++ (n ∷ [])
  unfolding gaps_below
  gaps_more n h = rw h

  pub gaps_same : (n : ℕ) → missing w x n ≡ false → gaps_below w x (suc n) ≡ gaps_below w x n
  unfolding gaps_below
  gaps_same n h = rw h (append-nil (gaps_below w x n))

  length_gaps_suc : (n : ℕ) → length (gaps_below w x (suc n)) ≡ length (gaps_below w x n) + cond (missing w x n) 1 0
  unfolding gaps_below
  length_gaps_suc n = simp (length-append, length_cond)

  pub length_gaps_mono : (m n : ℕ) → m ≤ n → length (gaps_below w x m) ≤ length (gaps_below w x n)
  length_gaps_mono m zero l = let e : m ≡ 0 = omega arith in rw e (omega arith)
  length_gaps_mono m (suc n) l = elim (ℕ_discrete m (suc n)) [
    | yes e ↦ rw e (omega arith)
    | no d ↦ omega (arith, length_gaps_mono m n (omega arith), length_gaps_suc n)
  ]

  -- ---- how long the list is: what exit i is short of, of its share of the numbers below n
  abbrev short : ℕ → ℕ → ℕ
  short n i = share n i w - count_at x i

  short_own : 0 < w → (n : ℕ) → short (suc n) (n % w) ≡ short n (n % w) + cond (missing w x n) 1 0
  unfolding missing
  short_own pos n = rw (share_own w pos n, share_at w pos n) (short_suc (count_at x (n % w)) (n / w))

  pub length_gaps : 0 < w → (n : ℕ) → length (gaps_below w x n) ≡ sum w (λ i. share n i w - count_at x i)
  unfolding gaps_below
  length_gaps pos zero = sym (sum_zero w (short 0) (λ i l. omega (arith, share_zero w pos i)))
  length_gaps pos (suc n) =
      omega (
        arith,
        length_gaps pos n,
        length_gaps_suc n,
        short_own pos n,
        sum_change w (short n) (short (suc n)) (n % w) (mod-lt n pos) (λ i l d. ap (λ s. s - count_at x i) (share_other w pos n i l d)),
      )
