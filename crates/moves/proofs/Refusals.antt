-- Refusals of a board's steps. In order: what holds where a call is not refused; a call is carried out just there; which numbers a
-- sound board's calls give. Assumes nothing.
use mathlib.Core.Path.{◌≡◌, refl, sym}
use mathlib.Core.List.{[], ◌∷◌}
use mathlib.Core.Bool.{Bool, true, false, not}
use Prim.Native.Nat.{ℕ, ◌<◌, ◌≤◌}
use native.Mathlib.Omega.{arith}
use lib.Dec.{eqb, leb, ltb}
use borrow.Author.Tests.{eq-eqb, ne_eqb, not-false, ltb-false, leb-false, eqb-true, eqb-false}
use Rattle.order.specs.Order.{◌⟶◌, first_of}
use Rattle.order.proofs.Order.{cleared, at_most, first_of_le}
use Rattle.board.specs.declared.Place.{Place}
use Rattle.board.specs.declared.Board.{Board}
use Rattle.moves.specs.Answer.{values_of}
use Rattle.board.specs.Board.{place_at}
use Rattle.moves.specs.Enter.{enter_no, entering, Boarded, enter_with}
use Rattle.moves.specs.Turn.{turn_no, Moved, passing, dealing, turn_with}
use Rattle.board.proofs.Lists.{cond_case}

-- ---- what holds where a call is not refused
pub record CanEnter (good : Bool) (w : ℕ) (x : Board) (t v : ℕ) : Type 0 where
  pub sound : good ≡ true
  pub token : t < 256
  pub wire : v < w
  pub free : (place_at x t).inside ≡ false
  pub room : x.entered ≡ 1000000 → ⊥

pub can_enter : (good : Bool) (w : ℕ) (x : Board) (t v : ℕ) → enter_no good w x t v ≡ 0 → CanEnter good w x t v
unfolding enter_no
can_enter good w x t v h =
    let nine = cleared (not good) 8 _ h in
    let four = cleared (ltb 255 t) 3 _ nine.then in
    let five = cleared (leb w v) 4 _ four.then in
    let six = cleared (place_at x t).inside 5 _ five.then in
    let seven = cleared (eqb x.entered 1000000) 6 _ six.then in
    record {
      sound = not-false good nine.fails;
      token = omega (arith, ltb-false 255 t four.fails);
      wire = leb-false w v five.fails;
      free = six.fails;
      room = eqb-false x.entered 1000000 seven.fails;
    }

pub record CanTurn (good : Bool) (x : Board) (t : ℕ) : Type 0 where
  pub sound : good ≡ true
  pub token : t < 256
  pub inside : (place_at x t).inside ≡ true

pub can_turn : (good : Bool) (x : Board) (t : ℕ) → turn_no good x t ≡ 0 → CanTurn good x t
unfolding turn_no
can_turn good x t h =
    let nine = cleared (not good) 8 _ h in
    let four = cleared (ltb 255 t) 3 _ nine.then in
    let eight = cleared (not (place_at x t).inside) 7 _ four.then in
    record {
      sound = not-false good nine.fails;
      token = omega (arith, ltb-false 255 t four.fails);
      inside = not-false (place_at x t).inside eight.fails;
    }

-- ---- a call is carried out where nothing is refused, and else gives the board back
module _ (w : ℕ) (x : Board) (t v n : ℕ) where
  pub enters : (y : Board) → n ≡ enter_no true w x t v → n ≡ 0 → y ≡ entering x t v → ◌≡◌ {A = Boarded} (record { refusal = n; board = y }) (enter_with true w x t v)
  unfolding enter_with
  enters y e z f = rw (f, ← e, eq-eqb n 0 z)

  pub enters_not : n ≡ enter_no true w x t v → (n ≡ 0 → ⊥) → ◌≡◌ {A = Boarded} (record { refusal = n; board = x }) (enter_with true w x t v)
  unfolding enter_with
  enters_not e z = rw (← e, ne_eqb n 0 z)

-- the same numbers by the token's place
pub enter_no_at : (w : ℕ) (x : Board) (t v : ℕ) (p : Place) → p ≡ place_at x t
    → enter_no true w x t v ≡ first_of ((ltb 255 t ⟶ 4) ∷ (leb w v ⟶ 5) ∷ (p.inside ⟶ 6) ∷ (eqb x.entered 1000000 ⟶ 7) ∷ [])
unfolding enter_no first_of
enter_no_at w x t v p e = rw e

pub turn_no_at : (x : Board) (t : ℕ) (p : Place) → p ≡ place_at x t → turn_no true x t ≡ first_of ((ltb 255 t ⟶ 4) ∷ (not p.inside ⟶ 8) ∷ [])
unfolding turn_no first_of
turn_no_at x t p e = rw e

-- a turn's answer carries the refusal number, and 0 where it was carried out
pub turn_number : (good : Bool) (w d : ℕ) (x : Board) (t feeds exit : ℕ) → (values_of (turn_with good w d x t feeds exit).answer).refusal ≡ turn_no good x t
unfolding turn_with passing dealing values_of
turn_number good w d x t feeds exit =
    let n = turn_no good x t in
    cond_case (λ (m : Moved). (values_of m.answer).refusal ≡ n) (eqb n 0) _ _
    (λ e.
    let z : 0 ≡ n = sym (eqb-true n 0 e) in
    cond_case (λ (m : Moved). (values_of m.answer).refusal ≡ n) (ltb (place_at x t).level d) _ _ (λ _. z) (λ _. z))
    (λ _. refl)

-- ---- a sound board is never refused by 9
pub enter_no_le : (w : ℕ) (x : Board) (t v : ℕ) → enter_no true w x t v ≤ 7
unfolding enter_no first_of at_most
enter_no_le w x t v =
    first_of_le 7
    ((ltb 255 t ⟶ 4) ∷ (leb w v ⟶ 5) ∷ ((place_at x t).inside ⟶ 6) ∷ (eqb x.entered 1000000 ⟶ 7) ∷ [])
    refl

pub turn_no_le : (x : Board) (t : ℕ) → turn_no true x t ≤ 8
unfolding turn_no first_of at_most
turn_no_le x t = first_of_le 8 ((ltb 255 t ⟶ 4) ∷ (not (place_at x t).inside ⟶ 8) ∷ []) refl
