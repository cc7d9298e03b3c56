-- What every call keeps. In order: a sound run's parts; the run as it opens; what a call that is not refused by its sheet or by 9 has; shape and soundness are kept, whatever sheet is lent.
-- Assumes nothing.
use mathlib.Core.Path.{◌≡◌, refl}
use mathlib.Core.Bool.{true, false, not, ◌&&◌}
use mathlib.Core.List.{List}
use Prim.Native.Nat.{ℕ, ◌≤◌}
use native.Mathlib.Omega.{arith}
use lib.Dec.{eqb}
use borrow.Author.Tests.{eqb-true, not-true}
use Rattle.std.proofs.lemmas.Bool.Decides.{nat_tests}
use Rattle.board.specs.declared.Board.{Board}
use Rattle.board.specs.Board.{place_at, count_at}
use Rattle.board.specs.Sound.{sound_board}
use Rattle.board.proofs.Lists.{and_left, and_right, cond_case}
use Rattle.board.proofs.Sound as board
use Rattle.moves.proofs.Keeps as keeps
use Rattle.feed_sheet.specs.Limits.{in_limits}
use Rattle.feed_sheet.specs.Sheet.{unpaired, feed_no}
use Rattle.feed_sheet.proofs.Sheet.{Sized, sized, judged, fed_once}
use Rattle.feeds.specs.declared.FeedRun.{FeedRun}
use Rattle.feeds.specs.Feeds.{FeedEntered, FeedTurned, fresh_feed, feed_sound, with_board, lent_no, judged_no, feed_enter_of, feeds_of, exit_of, feed_turn_of}

-- the arrays are as long as their types say
abbrev pub Shaped : FeedRun → Type 0
Shaped x = board.Shaped x.board

-- ---- soundness
pub record Parts (x : FeedRun) : Type 0 where
  pub size : in_limits x.width x.depth ≡ true
  pub pairs : unpaired x.width x.depth ≡ false
  pub board : sound_board x.width x.depth x.board ≡ true

pub parts : (x : FeedRun) → feed_sound x ≡ true → Parts x
unfolding feed_sound
parts x h =
    let a = in_limits x.width x.depth in
    let b = not (unpaired x.width x.depth) in
    let c = sound_board x.width x.depth x.board in
    let both = and_left (a && b) c h in
    record { size = and_left a b both; pairs = not-true _ (and_right a b both); board = and_right (a && b) c h }

pub sized_parts : {x : FeedRun} → Parts x → Sized x.width x.depth
sized_parts p = sized _ _ p.size p.pairs

-- a sound run with another sound board
pub sound_with : (x : FeedRun) (b : Board) → in_limits x.width x.depth ≡ true → unpaired x.width x.depth ≡ false
    → sound_board x.width x.depth b ≡ true → feed_sound (with_board x b) ≡ true
unfolding feed_sound
sound_with x b size pairs h = rw (size, pairs, h)

-- ---- the run as it opens
pub fresh_sound : (w d : ℕ) (sheet : List ℕ) → feed_no w d sheet ≡ 0 → feed_sound (fresh_feed w d) ≡ true
unfolding feed_sound fresh_feed
fresh_sound w d sheet h =
    let j = judged w d sheet h in
    rw (j.size, j.pairs, board.fresh_sound w d)

-- a refused opening gives a record that is not sound
pub refused_unsound : feed_sound (fresh_feed 0 0) ≡ false
unfolding feed_sound fresh_feed
refused_unsound = refl

-- ---- a call that neither its sheet nor 9 refuses
pub judged_sound : (x : FeedRun) (sheet : List ℕ) → 0 ≡ judged_no x sheet → feed_sound x ≡ true
judged_sound x sheet h = grind (arith, nat_tests)

-- what a sound run has entered and dealt, and how wide it is
pub few_entered : (x : FeedRun) → feed_sound x ≡ true → x.board.entered ≤ 1000000
few_entered x h = (board.parts x.width x.depth x.board (parts x h).board).few

pub few_counts : (x : FeedRun) → feed_sound x ≡ true → (i : ℕ) → count_at x.board i ≤ 1000000
few_counts x h i = omega (arith, board.count_le x.width x.depth x.board i (parts x h).board, few_entered x h)

pub most_width : (x : FeedRun) → feed_sound x ≡ true → x.width ≤ 64
most_width x h = (sized_parts (parts x h)).within.wide

-- ---- the sheet leads a token inside to a place of the network
pub leads : (sheet : List ℕ) (x : FeedRun) (t : ℕ) → lent_no x sheet ≡ 0
    → keeps.Leads x.width x.depth (place_at x.board t) (feeds_of sheet x t) (exit_of sheet x t)
unfolding feeds_of exit_of
leads sheet x t h =
    let j = judged x.width x.depth sheet h in
    let s = sized _ _ j.size j.pairs in
    let p = place_at x.board t in
    record {
      most = s.within.wide;
      even = λ l. s.even (omega arith);
      place = λ l v. (fed_once j p.level (omega arith)).below p.wire v;
      out = λ v. (fed_once j x.depth (omega arith)).below p.wire v;
    }

-- ---- shape and soundness
module _ (sheet : List ℕ) (x : FeedRun) (s : Shaped x) where
  pub shaped_enter : (t v : ℕ) → Shaped (feed_enter_of sheet x t v).run
  unfolding feed_enter_of
  shaped_enter t v =
      cond_case (λ (e : FeedEntered). Shaped e.run) (eqb (lent_no x sheet) 0) _ _
      (λ _. keeps.shaped_enter x.board s (feed_sound x) x.width t v)
      (λ _. s)

  pub shaped_turn : (t : ℕ) → Shaped (feed_turn_of sheet x t).run
  unfolding feed_turn_of
  shaped_turn t =
      cond_case (λ (e : FeedTurned). Shaped e.run) (eqb (lent_no x sheet) 0) _ _
      (λ _. keeps.shaped_turn x.board s (feed_sound x) x.width x.depth t (feeds_of sheet x t) (exit_of sheet x t))
      (λ _. s)

  module _ (h : feed_sound x ≡ true) where
    pub enter_keeps : (t v : ℕ) → feed_sound (feed_enter_of sheet x t v).run ≡ true
    unfolding feed_enter_of
    enter_keeps t v =
        let p = parts x h in
        cond_case (λ (e : FeedEntered). feed_sound e.run ≡ true) (eqb (lent_no x sheet) 0) _ _
        (λ _. sound_with x _ p.size p.pairs (keeps.enter_sound (feed_sound x) x.width x.depth x.board t v s p.board))
        (λ _. h)

    pub turn_keeps : (t : ℕ) → feed_sound (feed_turn_of sheet x t).run ≡ true
    unfolding feed_turn_of
    turn_keeps t =
        let p = parts x h in
        cond_case (λ (e : FeedTurned). feed_sound e.run ≡ true) (eqb (lent_no x sheet) 0) _ _
        (λ e.
        sound_with x _ p.size p.pairs
        (keeps.turn_sound (feed_sound x) x.width x.depth x.board t (feeds_of sheet x t) (exit_of sheet x t) s
        (leads sheet x t (eqb-true (lent_no x sheet) 0 e)) p.board))
        (λ _. h)
