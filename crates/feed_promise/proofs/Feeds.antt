-- A run over one feed sheet is a course of its board through a layered network. In order: the sheet as a network; one call; calls.
-- Assumes nothing.
use Prim.Native.Nat.{ℕ}
use mathlib.Core.Path.{◌≡◌, refl}
use mathlib.Core.Bool.{true}
use mathlib.Core.List.{List}
use native.Mathlib.Omega.{arith}
use borrow.Author.Tests.{eq-eqb}
use Rattle.board.specs.declared.Board.{Board}
use Rattle.board.proofs.Sound.{shaped_fresh}
use Rattle.promise.specs.History.{Call, enter, turn, After, calls_by}
use Rattle.promise.proofs.Boards.{Layered, board_call, turned, on_board, Steps, calls_on_board, Reached, reached_fresh, reached_calls}
use Rattle.feed_sheet.specs.Sheet.{fed_at, feed_no}
use Rattle.feed_sheet.proofs.Sheet.{judged, sized, sized_room, fed_once}
use Rattle.feeds.specs.declared.FeedRun.{FeedRun}
use Rattle.feeds.specs.Feeds.{fresh_feed, feed_open_of, feed_sound, lent_no, feed_enter_of, feeds_of, exit_of, feed_turn_of}
use Rattle.feeds.proofs.Keeps.{Shaped, fresh_sound, shaped_enter, shaped_turn, enter_keeps, turn_keeps}
use Rattle.feed_promise.specs.History.{feed_call_of, feed_history}

module _ (w d : ℕ) (sheet : List ℕ) (ok : feed_no w d sheet ≡ 0) where
  pub layered : Layered w d (fed_at w sheet) (fed_at w sheet d)
  layered =
      let j = judged w d sheet ok in
      let s = sized w d j.size j.pairs in
      record {
        some = s.within.some;
        most = s.within.wide;
        room = sized_room s;
        even = s.even;
        places = λ L v l m. (fed_once j L (omega arith)).below v m;
        exits = λ v m. (fed_once j d (omega arith)).below v m;
      }

  -- a sound run of this width and depth
  pub record Good (x : FeedRun) : Type 0 where
    pub width : x.width ≡ w
    pub depth : x.depth ≡ d
    pub shaped : Shaped x
    pub is_sound : feed_sound x ≡ true

  abbrev step : Board → Call → After Board
  step = board_call w d (fed_at w sheet) (fed_at w sheet d)

  pub lent : (x : FeedRun) → Good x → lent_no x sheet ≡ 0
  lent x g = rw (g.width, g.depth) ok

  call_steps : (x : FeedRun) (call : Call) → Good x
      → Steps w d (fed_at w sheet) (fed_at w sheet d) (feed_call_of sheet) (λ y. y.board) Good x call
  unfolding feed_call_of feed_enter_of feed_turn_of feeds_of exit_of board_call turned
  call_steps x (enter t v) g =
      let yes = eq-eqb (lent_no x sheet) 0 (lent x g) in
      record {
        good = record {
          width = rw yes g.width;
          depth = rw yes g.depth;
          shaped = shaped_enter sheet x g.shaped t v;
          is_sound = enter_keeps sheet x g.shaped g.is_sound t v;
        };
        same = rw (yes, g.is_sound, g.width);
      }
  call_steps x (turn t) g =
      let yes = eq-eqb (lent_no x sheet) 0 (lent x g) in
      record {
        good = record {
          width = rw yes g.width;
          depth = rw yes g.depth;
          shaped = shaped_turn sheet x g.shaped t;
          is_sound = turn_keeps sheet x g.shaped g.is_sound t;
        };
        same = rw (yes, g.is_sound, g.width, g.depth);
      }

  pub feed_calls : (calls : List Call) (x : FeedRun) → Good x
      → Good (calls_by (feed_call_of sheet) x calls).run
      × (on_board w d (fed_at w sheet) (fed_at w sheet d) (feed_call_of sheet) (λ y. y.board) (calls_by (feed_call_of sheet) x calls) ≡ calls_by step x.board calls)
  feed_calls calls x g = calls_on_board w d (fed_at w sheet) (fed_at w sheet d) (feed_call_of sheet) (λ y. y.board) Good call_steps calls x g

  -- ---- a history
  good_fresh : Good (fresh_feed w d)
  unfolding fresh_feed
  good_fresh = record { width = refl; depth = refl; shaped = shaped_fresh; is_sound = fresh_sound w d sheet ok }

  opened : (feed_open_of w d sheet).run ≡ fresh_feed w d
  unfolding feed_open_of
  opened = rw (eq-eqb (feed_no w d sheet) 0 ok)

  pub history_good : (calls : List Call) → Good (feed_history w d sheet calls).run
  unfolding feed_history
  history_good calls = rw opened (feed_calls calls (fresh_feed w d) good_fresh).0

  pub history_reached : (calls : List Call)
      → Reached w d (fed_at w sheet) (fed_at w sheet d) (feed_history w d sheet calls).run.board (feed_history w d sheet calls).entries (feed_history w d sheet calls).deals
  unfolding feed_history fresh_feed
  history_reached calls =
      let same = (feed_calls calls (fresh_feed w d) good_fresh).1 in
      rw opened
      (rw (← same) at (reached_calls w d (fed_at w sheet) (fed_at w sheet d) layered calls (reached_fresh w d (fed_at w sheet) (fed_at w sheet d) layered)))
