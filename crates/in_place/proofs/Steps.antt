-- What a call in place may count on, and what it keeps, over a run as a value. In order: a run as it opens, and before an opening; the
-- entries and the tokens inside are few; entering; where a token that may turn stands; a cell passed and a number dealt. Assumes
-- nothing.
use Prim.Native.Nat.{ℕ, ◌+◌, ◌<◌, ◌≤◌}
use mathlib.Core.Path.{◌≡◌, refl, sym, ◌∙◌}
use mathlib.Core.List.{List, [], ◌∷◌}
use mathlib.Core.Bool.{true, not}
use native.Mathlib.Omega.{arith}
use lib.Dec.{eqb, leb, ltb}
use lib.ListN.{get_or, set}
use borrow.Author.Tests.{eqb-true}
use Rattle.order.specs.Order.{◌⟶◌, first_of}
use Rattle.network.specs.Widths.{open_no, levels, depth_of}
use Rattle.network.specs.Rows.{place_of}
use Rattle.network.proofs.Widths.{allowed, depth_of_small, layered, width_small}
use Rattle.network.proofs.Rows.{row_array_at, place_of_below}
use Rattle.board.specs.declared.Place.{Place}
use Rattle.board.specs.declared.Board.{Board}
use Rattle.board.specs.Board.{free_place, fresh_board, place_at, count_at}
use Rattle.board.specs.Sound.{inside_one, inside_sum, sound_board}
use Rattle.board.proofs.Lists.{cond_case, sum_set, sum_replicate}
use Rattle.board.proofs.Sound.{Shaped, shaped_fresh, Inside, inside_at, count_le}
use Rattle.board.proofs.Sound as board
use Rattle.moves.specs.Enter.{at, entering}
use Rattle.moves.specs.Turn.{passing, dealing}
use Rattle.moves.proofs.Refusals.{CanEnter, CanTurn, enter_no_at, turn_no_at}
use Rattle.moves.proofs.Refusals as refusals
use Rattle.moves.proofs.Keeps as keeps
use Rattle.run.specs.declared.Run.{Run}
use Rattle.run.specs.Run.{fresh, open_of, depth_in, with_board}
use Rattle.in_place.specs.Held.{Wired, Steady}

-- ---- a run as it opens, and before an opening
pub record Opening (x : Run) : Type 0 where
  pub steady : Steady x
  pub none : 0 ≡ inside_sum x.board

opening : (w c : ℕ) → w ≤ 64 → Opening (fresh w c)
unfolding fresh fresh_board inside_sum
opening w c most = record {
  steady = record {
    counts = shaped_fresh.counts;
    toggles = shaped_fresh.toggles;
    places = shaped_fresh.places;
    width = most;
    board = board.fresh_sound w _;
  };
  none = sym (sum_replicate inside_one free_place 256 refl);
}

pub unopened : Opening (fresh 0 0)
unopened = opening 0 0 (omega arith)

pub opening_of : (w c : ℕ) → Opening (open_of w c).run
unfolding open_of
opening_of w c =
    cond_case Opening (eqb (open_no w c) 0) (fresh w c) (fresh 0 0)
    (λ e. opening w c (width_small w (allowed w c (eqb-true _ 0 e)).width))
    (λ _. unopened)

pub no_depth : 0 ≡ depth_in (fresh 0 0)
unfolding fresh depth_in depth_of levels
no_depth = refl

-- ---- what a step counts on: the run x is steady
module _ (x : Run) (s : Steady x) where
  shaped : Shaped x.board
  shaped = record { counts = s.counts; toggles = s.toggles; places = s.places }

  pub few : x.board.entered ≤ 1000000
  few = (board.parts x.width (depth_in x) x.board s.board).few

  pub few_inside : inside_sum x.board ≤ 1000000
  few_inside = omega (arith, few, (board.parts x.width (depth_in x) x.board s.board).adds)

  steady_with : (b : Board) → Shaped b → sound_board x.width (depth_in x) b ≡ true → Steady (with_board x b)
  unfolding depth_in
  steady_with b l h = record { counts = l.counts; toggles = l.toggles; places = l.places; width = s.width; board = h }

  -- the tokens inside, with token t at another place
  inside_set : (b : Board) (t : ℕ) (p : Place) → t < 256 → b.places ≡ set x.board.places t p
      → inside_sum b + inside_one (place_at x.board t) ≡ inside_sum x.board + inside_one p
  unfolding place_at inside_sum
  inside_set b t p l e = rw e (sum_set free_place inside_one x.board.places t p (omega (arith, s.places)))

-- ---- the table: a place below the depth, at a wire of the network
module _ (x : Run) (s : Steady x) (L v : ℕ) (l : L < depth_in x) (m : v < x.width) where
  pub layer_small : L < 36
  unfolding depth_in
  layer_small = omega (arith, depth_of_small x.width x.construction)

  pub wire_small : v < 64
  wire_small = omega (arith, s.width)

  pub fed : {table : List (List ℕ)} → Wired x table → get_or (get_or table L []) v 0 ≡ place_of x.width x.construction L v
  unfolding depth_in
  fed w = rw (w.rows L l) (row_array_at x.width x.construction L l v m)

-- ---- entering: token t stands at p, and nothing refuses it on wire v
module _ (x : Run) (s : Steady x) (t v : ℕ) (p : Place) (there : p ≡ place_at x.board t)
    (e : 0 ≡ first_of ((ltb 255 t ⟶ 4) ∷ (leb x.width v ⟶ 5) ∷ (p.inside ⟶ 6) ∷ (eqb x.board.entered 1000000 ⟶ 7) ∷ [])) where
  pub can_enter : CanEnter true x.width x.board t v
  can_enter = refusals.can_enter true x.width x.board t v (enter_no_at x.width x.board t v p there ∙ sym e)

  pub steady_entered : Steady (with_board x (entering x.board t v))
  steady_entered =
      steady_with x s (entering x.board t v) (keeps.shaped_entering x.board (shaped x s) t v)
      (keeps.entering_sound true x.width (depth_in x) x.board t v (shaped x s) can_enter s.board)

  pub one_more : inside_sum x.board + 1 ≡ inside_sum (entering x.board t v)
  unfolding entering
  one_more =
      let was : inside_one (place_at x.board t) ≡ 0 = rw can_enter.free in
      omega (arith, was, inside_set x s (entering x.board t v) t (at 0 v) can_enter.token refl)

-- ---- turns: token t stands at p, and nothing refuses it
module _ (x : Run) (s : Steady x) (t : ℕ) (p : Place) (there : p ≡ place_at x.board t)
    (e : 0 ≡ first_of ((ltb 255 t ⟶ 4) ∷ (not p.inside ⟶ 8) ∷ [])) where
  pub can_turn : CanTurn true x.board t
  can_turn = refusals.can_turn true x.board t (turn_no_at x.board t p there ∙ sym e)

  -- it is at a wire of the network
  inside : Inside x.width (depth_in x) p
  inside = rw there (inside_at x.width (depth_in x) x.board t s.places s.board can_turn.token can_turn.inside)

  was_inside : inside_one (place_at x.board t) ≡ 1
  was_inside = rw can_turn.inside

  pub wire_below : p.wire < x.width
  wire_below = inside.wire

  pub count_few : (i : ℕ) → count_at x.board i ≤ 1000000
  count_few i = omega (arith, count_le x.width (depth_in x) x.board i s.board, few x s)

  pub steady_dealt : Steady (with_board x (dealing x.width x.board t p.wire).board)
  steady_dealt =
      steady_with x s _ (keeps.shaped_dealing x.board (shaped x s) x.width t p.wire)
      (keeps.dealing_sound true x.width (depth_in x) x.board t p.wire (shaped x s) can_turn s.width inside.wire s.board)

  pub one_less : inside_sum (dealing x.width x.board t p.wire).board + 1 ≡ inside_sum x.board
  unfolding dealing
  one_less =
      omega (arith, was_inside, inside_set x s (dealing x.width x.board t p.wire).board t free_place can_turn.token refl)

  module _ (l : p.level < depth_in x) where
    module _ (feeds : ℕ) (f : feeds ≡ place_of x.width x.construction p.level p.wire) where
      pub steady_passed : Steady (with_board x (passing x.width x.board t feeds).board)
      unfolding depth_in
      steady_passed =
          steady_with x s _ (keeps.shaped_passing x.board (shaped x s) x.width t feeds)
          (keeps.passing_sound true x.width (depth_in x) x.board t feeds (shaped x s) can_turn
          (layered x.width x.construction p.level l).even
          (rw f (place_of_below x.width x.construction p.level l p.wire inside.wire))
          (rw there at l) s.board)

      pub none_less : inside_sum (passing x.width x.board t feeds).board ≡ inside_sum x.board
      unfolding passing
      none_less = omega (arith, was_inside, inside_set x s (passing x.width x.board t feeds).board t _ can_turn.token refl)
