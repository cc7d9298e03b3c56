-- The gap list is the missing numbers and no others, rising: laws of specs/Missing. Assumes nothing.
use Prim.Native.Nat.{ℕ, zero, suc, ◌<◌}
use mathlib.Core.Path.{◌≡◌, refl}
use mathlib.Core.Bool.{Bool, true, false, cond}
use mathlib.Core.List.Memᴰ
use mathlib.Core.List.{List, [], ◌∷◌, ◌++◌, append-nil, Memᴰ}
use mathlib.Core.Logic.{⊎_elim}
use native.Mathlib.Nat.{not-suc-le-zero}
use native.Mathlib.Decide.{dec_lt, ℕ_discrete}
use native.Mathlib.Omega.{arith}
use lib.ListN.{length, get_or, length-append, get_or-append}
use lib.Seq.{get_or_at}
use Rattle.board.specs.declared.Board.{Board}
use Rattle.gaps.specs.Gaps.{missing, gaps_below}
use Rattle.gaps.specs.Missing.{MissingBelow}

-- a list of numbers below n that rises, and such a list with n behind it
record Rises (l : List ℕ) (n : ℕ) : Type 0 where
  below : (i : ℕ) → i < length l → get_or l i 0 < n
  rising : (i j : ℕ) → i < j → j < length l → get_or l i 0 < get_or l j 0

module _ {l : List ℕ} {n : ℕ} (h : Rises l n) where
  below_last : (i : ℕ) → i < length (l ++ (n ∷ [])) → get_or (l ++ (n ∷ [])) i 0 < suc n
  below_last i k = elim (dec_lt i (length l)) [
    | yes m ↦ rw (get_or-append l (n ∷ []) 0 i m) (omega (arith, h.below i m))
    | no d ↦ rw (get_or_at l n [] 0 i (omega (arith, length-append l (n ∷ [])))) (omega arith)
  ]

  rising_last : (i j : ℕ) → i < j → j < length (l ++ (n ∷ [])) → get_or (l ++ (n ∷ [])) i 0 < get_or (l ++ (n ∷ [])) j 0
  rising_last i j m k =
      let before : i < length l = omega (arith, length-append l (n ∷ [])) in
      elim (dec_lt j (length l)) [
        | yes p ↦ rw (get_or-append l (n ∷ []) 0 i before, get_or-append l (n ∷ []) 0 j p) (h.rising i j m p)
        | no d ↦
            rw (get_or-append l (n ∷ []) 0 i before, get_or_at l n [] 0 j (omega (arith, length-append l (n ∷ [])))) (h.below i before)
      ]

  rises_cond : (b : Bool) → Rises (l ++ cond b (n ∷ []) []) (suc n)
  rises_cond true = record { below = below_last; rising = rising_last }
  rises_cond false = rw append-nil (record { below = λ i k. omega (arith, h.below i k); rising = h.rising })

held_last : (b : Bool) (n v : ℕ) → Memᴰ v (cond b (n ∷ []) []) → (v ≡ n) × (b ≡ true)
held_last true n v m = (Memᴰ.eq_of_singleton m, refl)
held_last false n v m = absurd (Memᴰ.not-nil m)

module _ (w : ℕ) (x : Board) where
  gaps_hold : (n v : ℕ) → v < n → missing w x v ≡ true → Memᴰ v (gaps_below w x n)
  unfolding gaps_below
  gaps_hold zero v l h = absurd (not-suc-le-zero l)
  gaps_hold (suc n) v l h = elim (ℕ_discrete v n) [
    | yes e ↦ rw (← e, h) (Memᴰ.append_right (gaps_below w x v) (Memᴰ.head refl))
    | no d ↦ Memᴰ.append_left _ (gaps_hold n v (omega arith) h)
  ]

  gaps_only : (n v : ℕ) → Memᴰ v (gaps_below w x n) → (v < n) × (missing w x v ≡ true)
  unfolding gaps_below
  gaps_only zero v m = absurd (Memᴰ.not-nil m)
  gaps_only (suc n) v m = ⊎_elim
      (λ k. let ih = gaps_only n v k in (omega arith, ih.1))
      (λ k. let last = held_last (missing w x n) n v k in (omega (arith, last.0), rw last.0 last.1))
      (Memᴰ.append_cases (gaps_below w x n) m)

  gaps_rise : (n : ℕ) → Rises (gaps_below w x n) n
  unfolding gaps_below
  gaps_rise zero = record { below = λ i l. absurd (not-suc-le-zero l); rising = λ i j k l. absurd (not-suc-le-zero l) }
  gaps_rise (suc n) = rises_cond (gaps_rise n) (missing w x n)

  pub gaps_are : (n : ℕ) → MissingBelow w x n (gaps_below w x n)
  gaps_are n = record { holds = gaps_hold n; only = gaps_only n; rising = (gaps_rise n).rising }
