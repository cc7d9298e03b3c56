-- What each way through a call comes to. In order: opening, entering, turns. Assumes nothing.
use mathlib.Core.Path.{◌≡◌, sym, ◌∙◌}
use mathlib.Core.List.{[], ◌∷◌}
use mathlib.Core.Bool.{true, not}
use lib.Dec.{ltb}
use Prim.Native.Nat.{ℕ, ◌<◌, ◌≤◌}
use native.Mathlib.Omega.{arith}
use lib.ListN.{length}
use borrow.Author.Tests.{eq-eqb, ne_eqb, lt-ltb, le-ltb}
use Rattle.order.specs.Order.{◌⟶◌, first_of}
use Rattle.network.specs.Widths.{open_no, depth_of}
use Rattle.network.specs.Rows.{place_of}
use Rattle.network.proofs.Widths.{depth_of_small, width_small}
use Rattle.board.specs.declared.Place.{Place}
use Rattle.board.specs.Board.{place_at, count_at}
use Rattle.moves.specs.Answer.{Refused}
use Rattle.moves.specs.Enter.{Boarded, enter_with}
use Rattle.moves.specs.Turn.{turn_no, Moved, passing, dealing, turn_with}
use Rattle.board.proofs.Sound.{inside_at, count_le}
use Rattle.board.proofs.Sound as board
use Rattle.moves.proofs.Refusals.{can_turn, turn_no_at}
use Rattle.run.specs.declared.Run.{Run}
use Rattle.run.specs.Run.{Opened, Entered, Turned, fresh, open_of, depth_in, sound, with_board, enter_of, feeds_of, turn_of}
use Rattle.run.proofs.Keeps.{parts}

-- ---- opening
module _ (w c n : ℕ) (x : Run) (e : n ≡ open_no w c) where
  pub opens : n ≡ 0 → x ≡ fresh w c → ◌≡◌ {A = Opened} (record { refusal = n; run = x }) (open_of w c)
  unfolding open_of
  opens z f = rw (← e, eq-eqb n 0 z, f)

  pub opens_not : (n ≡ 0 → ⊥) → x ≡ fresh 0 0 → ◌≡◌ {A = Opened} (record { refusal = n; run = x }) (open_of w c)
  unfolding open_of
  opens_not z f = rw (← e, ne_eqb n 0 z, f)

-- ---- a run that is sound
pub enters : (x : Run) (t v : ℕ) (e : Boarded) → sound x ≡ true → e ≡ enter_with true x.width x.board t v → ◌≡◌ {A = Entered} (record { refusal = e.refusal; run = with_board x e.board }) (enter_of x t v)
unfolding enter_of
enters x t v e h f = rw (h, f)

-- where a token that may turn stands, and what an exit has dealt
pub record Stands (x : Run) (t : ℕ) (p : Place) : Type 0 where
  pub token : t < 256
  pub level : p.level ≤ 36
  pub wire : p.wire < x.width
  pub width : x.width ≤ 64
  pub count : (i : ℕ) → count_at x.board i ≤ 1000000

depth_in_small : (x : Run) → depth_in x ≤ 36
unfolding depth_in
depth_in_small x = depth_of_small x.width x.construction

-- token t stands at p, and n is what its turn is refused by
module _ (x : Run) (t : ℕ) (h : sound x ≡ true) (p : Place) (f : p ≡ place_at x.board t) (n : ℕ) (e : n ≡ first_of ((ltb 255 t ⟶ 4) ∷ (not p.inside ⟶ 8) ∷ [])) where
  is_number_lem : n ≡ turn_no true x.board t
  is_number_lem = e ∙ sym (turn_no_at x.board t p f)

  pub turns_not : (n ≡ 0 → ⊥) → ◌≡◌ {A = Turned} (record { answer = Refused n; run = x }) (turn_of x t)
  unfolding turn_of turn_with
  turns_not z = rw (h, ← is_number_lem, ne_eqb n 0 z)

  module _ (z : n ≡ 0) where
    pub stands : length x.board.places ≡ 256 → Stands x t p
    stands long =
        let good = parts x h in
        let d = depth_in x in
        let can = can_turn true x.board t (sym is_number_lem ∙ z) in
        let at = inside_at x.width d x.board t long good.board can.token can.inside in
        record {
          token = can.token;
          level = rw f (omega (arith, at.level, depth_in_small x));
          wire = rw f at.wire;
          width = width_small x.width good.width;
          count = λ i. omega (arith, count_le x.width d x.board i good.board, (board.parts x.width d x.board good.board).few);
        }

    module _ (d : ℕ) (g : d ≡ depth_of x.width x.construction) (m : Moved) (r : Turned) (q : r ≡ record { answer = m.answer; run = with_board x m.board }) where
      pub turns_pass : (feeds : ℕ) → p.level < d → feeds ≡ place_of x.width x.construction p.level p.wire → m ≡ passing x.width x.board t feeds → r ≡ turn_of x t
      unfolding turn_of turn_with feeds_of depth_in
      turns_pass feeds l k i = rw (h, ← is_number_lem, eq-eqb n 0 z, ← g, ← f, lt-ltb p.level d l, ← k, q, i)

      pub turns_deal : d ≤ p.level → m ≡ dealing x.width x.board t p.wire → r ≡ turn_of x t
      unfolding turn_of turn_with depth_in
      turns_deal l i = rw (h, ← is_number_lem, eq-eqb n 0 z, ← g, ← f, le-ltb p.level d l, q, i)
