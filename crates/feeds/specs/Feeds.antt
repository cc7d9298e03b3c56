-- A run over a feed sheet (02, P3): opening, soundness, enter and turn. The record has the depth where that of a build has the
-- construction; the sheet is lent to each call, and judged before all else. Definitions only. Assumes nothing.
use Rattle.std.specs.Prelude.{ℕ, Bool, not, cond, ◌&&◌, List, eqb, ⊤}
use Rattle.order.specs.declared.After.{After}
use Rattle.order.specs.Order.{refused_by}
use Rattle.board.specs.declared.Board.{Board}
use Rattle.board.specs.Board.{fresh_board, place_at}
use Rattle.board.specs.Sound.{sound_board}
use Rattle.moves.specs.declared.Turn.{Turn}
use Rattle.moves.specs.Answer.{Answer, Refused, answered}
use Rattle.moves.specs.Enter.{enter_with}
use Rattle.moves.specs.Turn.{turn_with}
use Rattle.feed_sheet.specs.Limits.{in_limits}
use Rattle.feed_sheet.specs.Sheet.{unpaired, fed_at, feed_no}
use Rattle.feeds.specs.declared.FeedRun.{FeedRun}

-- what an opening gives, what entering gives, and what a turn gives: the refusal's number, 0 where it was carried out, or the
-- turn's answer, and the run after it
pub record FeedOpened : Type 0 where
  pub refusal : ℕ
  pub run : FeedRun

pub record FeedEntered : Type 0 where
  pub refusal : ℕ
  pub run : FeedRun

pub record FeedTurned : Type 0 where
  pub answer : Answer
  pub run : FeedRun

abbrev pub feed_opened : After FeedRun ⊤ → FeedOpened
feed_opened a = record { refusal = refused_by a.answer; run = a.state }

abbrev pub feed_entered : After FeedRun ⊤ → FeedEntered
feed_entered a = record { refusal = refused_by a.answer; run = a.state }

abbrev pub feed_turned : After FeedRun Turn → FeedTurned
feed_turned a = record { answer = answered a.answer; run = a.state }

-- a run as it opens
unfoldable pub fresh_feed : ℕ → ℕ → FeedRun
fresh_feed w d = record { width = w; depth = d; board = fresh_board }

-- opening, with the width and depth asked for: 22, 20, 3, 21; a refused opening gives a record of width 0 and depth 0, the rest as
-- at opening
unfoldable pub feed_open_of : ℕ → ℕ → List ℕ → FeedOpened
feed_open_of w d sheet =
    record { refusal = feed_no w d sheet; run = cond (eqb (feed_no w d sheet) 0) (fresh_feed w d) (fresh_feed 0 0) }

-- width and depth within the limit, no odd width with layers, and a sound board
unfoldable pub feed_sound : FeedRun → Bool
feed_sound x = in_limits x.width x.depth && not (unpaired x.width x.depth) && sound_board x.width x.depth x.board

abbrev pub with_board : FeedRun → Board → FeedRun
with_board x b = record { width = x.width; depth = x.depth; board = b }

-- the sheet judged by the record's own width and depth
abbrev pub lent_no : FeedRun → List ℕ → ℕ
lent_no x sheet = feed_no x.width x.depth sheet

-- what refuses a call before its own order: the sheet, and then 9 where the record is not sound
abbrev pub judged_no : FeedRun → List ℕ → ℕ
judged_no x sheet = cond (eqb (lent_no x sheet) 0) (cond (feed_sound x) 0 9) (lent_no x sheet)

-- token t on entry wire v: 22, 20, 3, 21 of the sheet; then 9, 4, 5, 6, 7
unfoldable pub feed_enter_of : List ℕ → FeedRun → ℕ → ℕ → FeedEntered
feed_enter_of sheet x t v =
    let e = enter_with (feed_sound x) x.width x.board t v in
    cond (eqb (lent_no x sheet) 0)
    (record { refusal = e.refusal; run = with_board x e.board })
    (record { refusal = lent_no x sheet; run = x })

-- the place that the wire of token t feeds at its level, and the exit that the exit row, row d, names for its wire
unfoldable pub feeds_of : List ℕ → FeedRun → ℕ → ℕ
feeds_of sheet x t = fed_at x.width sheet (place_at x.board t).level (place_at x.board t).wire

unfoldable pub exit_of : List ℕ → FeedRun → ℕ → ℕ
exit_of sheet x t = fed_at x.width sheet x.depth (place_at x.board t).wire

-- a turn of token t: 22, 20, 3, 21 of the sheet; then 9, 4, 8
unfoldable pub feed_turn_of : List ℕ → FeedRun → ℕ → FeedTurned
feed_turn_of sheet x t =
    let m = turn_with (feed_sound x) x.width x.depth x.board t (feeds_of sheet x t) (exit_of sheet x t) in
    cond (eqb (lent_no x sheet) 0)
    (record { answer = m.answer; run = with_board x m.board })
    (record { answer = Refused (lent_no x sheet); run = x })
