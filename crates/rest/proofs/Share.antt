-- Laws of shares. The first two say when a share is above q; the others go by them.
-- Assumes nothing.
use Prim.Native.Nat.{ℕ, zero, suc, ◌+◌, ◌*◌, ◌/◌, ◌%◌, ◌<◌}
use mathlib.Core.Path.{◌≡◌, ap, sym, ◌∙◌}
use mathlib.Core.Logic.{◌≢◌}
use native.Mathlib.Nat.{mul-le-mul_right, lt_of_mul-lt-mul_right, le-div_iff_mul-le, div-add-mod', mod-lt, mod-eq_of_lt, mul-add-mod_self_right}
use native.Mathlib.Decide.{ℕ_discrete, dec_le}
use native.Mathlib.Omega.{arith}
use Rattle.rest.specs.Sum.{sum}
use Rattle.rest.specs.Share.{share}
use Rattle.rest.proofs.Sum.{sum_change, sum_zero}

-- numbers that have the same numbers below them
pub eq_by_lt : (a b : ℕ) → ((q : ℕ) → q < a → q < b) → ((q : ℕ) → q < b → q < a) → a ≡ b
eq_by_lt a b f g = elim (dec_le a b) [
  | yes h ↦ elim (dec_le b a) [ yes k ↦ omega arith | no k ↦ omega (arith, g a (omega arith)) ]
  | no h ↦ omega (arith, f b (omega arith))
]

module _ (w : ℕ) (pos : 0 < w) where
  pub share_lt : (m i q : ℕ) → q < share m i w → q * w + i < m
  unfolding share
  share_lt m i q h = omega (arith, (le-div_iff_mul-le {x = suc q} pos).0 h)

  pub lt_share : (m i q : ℕ) → q * w + i < m → q < share m i w
  unfolding share
  lt_share m i q h = (le-div_iff_mul-le pos).1 (omega arith)

  pub share_zero : (i : ℕ) → share 0 i w ≡ 0
  share_zero i = eq_by_lt (share 0 i w) 0 (λ q h. omega (arith, share_lt 0 i q h)) (λ q h. omega arith)

  pub share_other : (m i : ℕ) → i < w → i ≢ m % w → share (suc m) i w ≡ share m i w
  share_other m i l n = eq_by_lt (share (suc m) i w) (share m i w)
      (λ q h. lt_share m i q (go q (share_lt (suc m) i q h)))
      (λ q h. lt_share (suc m) i q (omega (arith, share_lt m i q h)))
    where
      go : (q : ℕ) → q * w + i < suc m → q * w + i < m
      go q h = elim (ℕ_discrete (q * w + i) m) [
        | yes e ↦ absurd (n (sym (ap (λ z. z % w) (sym e) ∙ mul-add-mod_self_right q w i ∙ mod-eq_of_lt l)))
        | no e ↦ omega arith
      ]

  pub share_at : (m : ℕ) → share m (m % w) w ≡ m / w
  share_at m = eq_by_lt (share m (m % w) w) (m / w)
      (λ q h. lt_of_mul-lt-mul_right w (omega (arith, share_lt m (m % w) q h, div-add-mod' m w)))
      (λ q h. lt_share m (m % w) q (omega (arith, mul-le-mul_right {m = suc q} w h, div-add-mod' m w)))

  pub share_own : (m : ℕ) → share (suc m) (m % w) w ≡ suc (share m (m % w) w)
  share_own m = eq_by_lt (share (suc m) (m % w) w) (suc (share m (m % w) w))
      (λ q h. elim q as (λ z. z < share (suc m) (m % w) w → z < suc (share m (m % w) w)) [
        | zero ↦ λ h. omega arith
        | suc p ↦ λ h. omega (arith, lt_share m (m % w) p (omega (arith, share_lt (suc m) (m % w) (suc p) h)))
      ] h)
      (λ q h. lt_share (suc m) (m % w) q
      (omega (arith, mul-le-mul_right {m = q} {n = m / w} w (omega (arith, share_at m)), div-add-mod' m w)))

  pub sum_share : (m : ℕ) → sum w (λ i. share m i w) ≡ m
  sum_share zero = sum_zero w (λ i. share 0 i w) (λ i l. share_zero i)
  sum_share (suc m) =
      omega (
        arith,
        sum_share m,
        share_own m,
        sum_change w (λ i. share m i w) (λ i. share (suc m) i w) (m % w) (mod-lt m pos) (λ i l n. share_other m i l n),
      )

  -- v is below m exactly where exit v mod w has a share above v div w
  pub below_share : (m v : ℕ) → v / w < share m (v % w) w → v < m
  below_share m v h = omega (arith, share_lt m (v % w) (v / w) h, div-add-mod' v w)

  pub share_below : (m v : ℕ) → v < m → v / w < share m (v % w) w
  share_below m v h = lt_share m (v % w) (v / w) (omega (arith, div-add-mod' v w))
