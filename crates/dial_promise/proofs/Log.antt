-- Laws of what calls tell. In order: one list after another; where each yield is exact, the yields and what came since add up to the
-- numbers dealt. Assumes nothing.
use Prim.Native.Nat.{ℕ, ◌+◌}
use mathlib.Core.Path.{◌≡◌, refl, sym, ◌∙◌}
use mathlib.Core.Bool.{Bool, true, false, cond}
use mathlib.Core.List.{List, [], ◌∷◌, ◌++◌}
use native.Mathlib.Nat.{zero-add, add_assoc}
use native.Mathlib.Omega.{arith}
use lib.Dec.{eqb}
use borrow.Author.Tests.{eqb-true, eqb-false}
use Rattle.rest.specs.Sum.{only}
use Rattle.rest.proofs.Sum.{only_same, only_other}
use Rattle.board.specs.Sound.{sum_of}
use Rattle.promise.specs.History.{dealt_at}
use Rattle.dial_promise.specs.Told.{Told, dealt, polled, deals_in, yields_at, since, AtPolls}

-- ---- one list after another
pub deals_in_append : (l m : List Told) → deals_in (l ++ m) ≡ deals_in l ++ deals_in m
unfolding deals_in
deals_in_append [] m = refl
deals_in_append (dealt e ∷ l) m = rw (deals_in_append l m)
deals_in_append (polled j y ∷ l) m = deals_in_append l m

module _ (i : ℕ) where
  pub yields_at_append : (l m : List Told) → yields_at i (l ++ m) ≡ yields_at i l + yields_at i m
  unfolding yields_at
  yields_at_append [] m = sym (zero-add (yields_at i m))
  yields_at_append (dealt e ∷ l) m = yields_at_append l m
  yields_at_append (polled j y ∷ l) m = omega (arith, yields_at_append l m)

  pub since_append : (k : ℕ) (l m : List Told) → since i k (l ++ m) ≡ since i (since i k l) m
  unfolding since
  since_append k [] m = refl
  since_append k (dealt e ∷ l) m = since_append (k + only e.exit i 1) l m
  since_append k (polled j y ∷ l) m = since_append (cond (eqb j i) 0 k) l m

  pub at_polls_append : (P : ℕ → ℕ → Type 0) (k : ℕ) (l m : List Told) → AtPolls P i k l → AtPolls P i (since i k l) m → AtPolls P i k (l ++ m)
  unfolding since AtPolls
  at_polls_append P k [] m h g = g
  at_polls_append P k (dealt e ∷ l) m h g = at_polls_append P (k + only e.exit i 1) l m h g
  at_polls_append P k (polled j y ∷ l) m h g = (h.0, at_polls_append P (cond (eqb j i) 0 k) l m h.1 g)

  -- ---- what holds at each poll by two facts
  pub at_polls_both : (P Q R : ℕ → ℕ → Type 0) → ((k y : ℕ) → P k y → Q k y → R k y) → (k : ℕ) (l : List Told)
      → AtPolls P i k l → AtPolls Q i k l → AtPolls R i k l
  unfolding AtPolls
  at_polls_both P Q R f k [] p q = p
  at_polls_both P Q R f k (dealt e ∷ l) p q = at_polls_both P Q R f (k + only e.exit i 1) l p q
  at_polls_both P Q R f k (polled j y ∷ l) p q =
      (λ e. f k y (p.0 e) (q.0 e), at_polls_both P Q R f (cond (eqb j i) 0 k) l p.1 q.1)

  polled_adds : (j y k n a : ℕ) (b : Bool) → eqb j i ≡ b → (j ≡ i → y ≡ k) → n ≡ cond b 0 k + a → only j i y + n ≡ k + a
  polled_adds j y k n a true e h g = omega (arith, only_same j i y (eqb-true j i e), h (eqb-true j i e))
  polled_adds j y k n a false e h g = omega (arith, only_other j i y (eqb-false j i e))

  -- ---- where each yield is exact
  pub adds_up_lem : (k : ℕ) (l : List Told) → AtPolls (λ n y. y ≡ n) i k l → yields_at i l + since i k l ≡ k + dealt_at i (deals_in l)
  unfolding AtPolls yields_at since deals_in dealt_at sum_of
  adds_up_lem k [] h = omega arith
  adds_up_lem k (dealt e ∷ l) h = omega (arith, adds_up_lem (k + only e.exit i 1) l h)
  adds_up_lem k (polled j y ∷ l) h =
      let ih = adds_up_lem (cond (eqb j i) 0 k) l h.1 in
      add_assoc (only j i y) (yields_at i l) (since i (cond (eqb j i) 0 k) l)
      ∙ polled_adds j y k _ (dealt_at i (deals_in l)) (eqb j i) refl h.0 ih
