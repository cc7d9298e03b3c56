-- MERGER keeps the step property (000, Lemma 3.5), and BITONIC has it (Theorem 3.6), as crate `network` wires them.
-- Assumes nothing.
use Prim.Native.Nat.{ℕ, zero, suc, ◌+◌, ◌-◌, ◌*◌, ◌/◌, ◌%◌, ◌^◌, ◌≤◌, ◌<◌}
use mathlib.Core.Path.{◌≡◌, refl, ap, ap₂, sym, ◌∙◌, fun_ext}
use mathlib.Core.Bool.{true, false, cond}
use mathlib.Core.Logic.{⊎_elim}
use native.Mathlib.Nat.{pow-succ'}
use native.Mathlib.Decide.{ℕ_discrete}
use native.Mathlib.Omega.{arith}
use lib.Dec.{ltb}
use lib.Pow.{pow_pos}
use borrow.Author.Tests.{lt-ltb, le-ltb, eq-eqb, ne_eqb}
use Rattle.network.specs.declared.Feed.TheVariants.{Beside, Merger}
use Rattle.network.specs.Widths.{depth_b}
use Rattle.network.specs.Wiring.{even, odd, feed_at, part, bitonic}
use Rattle.network.proofs.Feeds.{lt_or_le}
use Rattle.network.proofs.Once.{once_bitonic}
use Rattle.rest.specs.Sum.{sum}
use Rattle.rest.specs.Flow.{flow}
use Rattle.rest.specs.Rest.{Step}
use Rattle.rest.proofs.Sum.{sum_ext, sum_append}
use Rattle.rest.proofs.Flow.{flow_add}
use Rattle.rest.proofs.Step.{evens, odds, step_evens, step_odds, evens_sum, odds_sum}
use Rattle.rest.proofs.Layers.{level_of, Both, Takes, flow_beside}
use Rattle.rest.proofs.Parts.{passed, step_one, step_two}

-- p on the lower half of 2g wires, q on the upper
beside : ℕ → (ℕ → ℕ) → (ℕ → ℕ) → ℕ → ℕ
beside g p q u = cond (ltb u g) (p u) (q (u - g))

both_beside : (g : ℕ) (p q : ℕ → ℕ) → Both g (beside g p q) p q
unfolding beside
both_beside g p q true i l = rw (le-ltb (g + i) g (omega arith)) (ap q (omega arith))
both_beside g p q false i l = rw (lt-ltb i g l)

sum_both : (w g : ℕ) → w ≡ 2 * g → (x p q : ℕ → ℕ) → Both g x p q → sum w x ≡ sum g p + sum g q
sum_both w g twice x p q both =
    let two : w ≡ g + g = omega arith in
    ap (λ n. sum n x) two ∙ sum_append g g x ∙ ap₂ ◌+◌ (sum_ext g x p (both false)) (sum_ext g (λ i. x (g + i)) q (both true))

-- of inputs p and q the first merger takes the even places of p and the odd ones of q, the second the others
module _ (h g : ℕ) (twice : h ≡ 2 * g) (x p q : ℕ → ℕ) (both : Both h x p q) where
  abbrev a : ℕ → ℕ
  a = beside g (evens p) (odds q)

  abbrev b : ℕ → ℕ
  b = beside g (odds p) (evens q)

  lower : (v : ℕ) → v < h → x v ≡ cond (odd v) b a (v / 2)
  lower v l = elim (ℕ_discrete (v % 2) 1) [
    | yes e ↦ rw (eq-eqb (v % 2) 1 e) (both false v l ∙ ap p (omega arith) ∙ sym (both_beside g (odds p) (evens q) false (v / 2) (omega arith)))
    | no n ↦ rw (ne_eqb (v % 2) 1 n) (both false v l ∙ ap p (omega arith) ∙ sym (both_beside g (evens p) (odds q) false (v / 2) (omega arith)))
  ]

  upper : (i : ℕ) → i < h → x (h + i) ≡ cond (even i) b a (g + i / 2)
  upper i l = elim (ℕ_discrete (i % 2) 0) [
    | yes e ↦ rw (eq-eqb (i % 2) 0 e) (both true i l ∙ ap q (omega arith) ∙ sym (both_beside g (odds p) (evens q) true (i / 2) (omega arith)))
    | no n ↦ rw (ne_eqb (i % 2) 0 n) (both true i l ∙ ap q (omega arith) ∙ sym (both_beside g (evens p) (odds q) true (i / 2) (omega arith)))
  ]

  takes_merger : Takes Merger h x a b
  takes_merger v l = ⊎_elim
      (λ (low : v < h). rw (lt-ltb v h low) (lower v low))
      (λ (high : h ≤ v).
      let half : h / 2 ≡ g = omega arith in
      rw (le-ltb v h high, half) (ap x (omega arith) ∙ upper (v - h) (omega arith)))
      (lt_or_le v h)

-- Lemma 3.5: MERGER[2^(k + 1)] of inputs p and q that have the step property has it
pub merger_step : (k : ℕ) (x p q : ℕ → ℕ) → Both (2 ^ k) x p q → Step (2 ^ k) p → Step (2 ^ k) q → Step (2 ^ suc k) (passed Merger (suc k) x)
merger_step zero x p q both step-p step-q = step_one Merger x
merger_step (suc k) x p q both step-p step-q =
    step_two Merger k x (beside g (evens p) (odds q)) (beside g (odds p) (evens q)) (takes_merger h g twice x p q both)
    (merger_step k _ _ _ (both_beside g (evens p) (odds q)) (step_evens h g twice p step-p) (step_odds h g twice q step-q))
    (merger_step k _ _ _ (both_beside g (odds p) (evens q)) (step_odds h g twice p step-p) (step_evens h g twice q step-q))
    (omega (arith, first, second)) (omega (arith, first, second))
  where
    g : ℕ
    g = 2 ^ k

    h : ℕ
    h = 2 ^ suc k

    twice : 2 ^ suc k ≡ 2 * 2 ^ k
    twice = pow-succ' 2 k

    first : sum (2 ^ suc k) (beside (2 ^ k) (evens p) (odds q)) ≡ (sum (2 ^ suc k) p + 1) / 2 + sum (2 ^ suc k) q / 2
    first =
        sum_both h g twice _ (evens p) (odds q) (both_beside g (evens p) (odds q))
        ∙ ap₂ ◌+◌ (evens_sum h g twice p step-p (pow_pos k)) (odds_sum h g twice q step-q (pow_pos k))

    second : sum (2 ^ suc k) (beside (2 ^ k) (odds p) (evens q)) ≡ sum (2 ^ suc k) p / 2 + (sum (2 ^ suc k) q + 1) / 2
    second =
        sum_both h g twice _ (odds p) (evens q) (both_beside g (odds p) (evens q))
        ∙ ap₂ ◌+◌ (odds_sum h g twice p step-p (pow_pos k)) (evens_sum h g twice q step-q (pow_pos k))

-- BITONIC[2^k], at each level
abbrev pub at_level : ℕ → (ℕ → ℕ) → ℕ → ℕ → ℕ
at_level k = level_of (2 ^ k) (bitonic k)

-- a row of BITONIC[2^(k + 1)]: two of half the width side by side, then the merger
row_beside : (k L : ℕ) → L < depth_b k → (v : ℕ) → bitonic (suc k) L v ≡ feed_at Beside (2 ^ k) (bitonic k L) v
unfolding bitonic
row_beside k L l v = rw (lt-ltb L (depth_b k) l)

row_merger : (k L v : ℕ) → bitonic (suc k) (depth_b k + L) v ≡ part Merger (suc k) L v
unfolding bitonic
row_merger k L v = rw (le-ltb (depth_b k + L) (depth_b k) (omega arith)) (ap (λ n. part Merger (suc k) n v) (omega arith))

even_pow : (k L : ℕ) → L < depth_b k → 2 ^ k % 2 ≡ 0
even_pow zero L l = absurd (omega arith)
even_pow (suc k) L l = omega arith

module _ (k : ℕ) (x : ℕ → ℕ) where
  halves : Both (2 ^ k) (at_level (suc k) x (depth_b k)) (at_level k x (depth_b k)) (at_level k (λ i. x (2 ^ k + i)) (depth_b k))
  unfolding flow
  halves =
      flow_beside (2 ^ suc k) (2 ^ k) (pow-succ' 2 k) (bitonic k) (bitonic (suc k)) (once_bitonic k) (once_bitonic (suc k)) x x (λ i. x (2 ^ k + i))
      0 (depth_b k) (omega arith) start (λ L p q. (even_pow k L q, row_beside k L q))
    where
      start : Both (2 ^ k) x x (λ i. x (2 ^ k + i))
      start true i l = refl
      start false i l = refl

  then_merger : at_level (suc k) x (depth_b (suc k)) ≡ passed Merger (suc k) (at_level (suc k) x (depth_b k))
  then_merger =
      let more : depth_b (suc k) ≡ depth_b k + suc k = omega arith in
      ap (at_level (suc k) x) more ∙ flow_add (2 ^ suc k) (λ L v. bitonic (suc k) L v / 2) x (depth_b k) (suc k)
      ∙ ap (λ cell. flow (2 ^ suc k) cell (at_level (suc k) x (depth_b k)) (suc k)) (fun_ext (λ L. fun_ext (λ v. ap (λ p. p / 2) (row_merger k L v))))

-- Theorem 3.6: BITONIC[2^k] has the step property, whatever comes
pub bitonic_step : (k : ℕ) (x : ℕ → ℕ) → Step (2 ^ k) (at_level k x (depth_b k))
bitonic_step zero x = λ i j l m. omega arith
bitonic_step (suc k) x =
    rw (then_merger k x)
    (merger_step k (at_level (suc k) x (depth_b k)) (at_level k x (depth_b k)) (at_level k (λ i. x (2 ^ k + i)) (depth_b k)) (halves k x) (bitonic_step k x)
    (bitonic_step k (λ i. x (2 ^ k + i))))
