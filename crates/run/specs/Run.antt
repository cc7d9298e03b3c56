-- A run (01, "A run"): opening, soundness, enter and turn. Definitions only. Assumes nothing.
use Rattle.std.specs.Prelude.{ℕ, Bool, cond, ◌&&◌, eqb, ⊤}
use Rattle.order.specs.declared.After.{After}
use Rattle.order.specs.Order.{refused_by}
use Rattle.network.specs.Widths.{width_ok, construction_ok, open_no, depth_of}
use Rattle.network.specs.Rows.{place_of}
use Rattle.board.specs.declared.Board.{Board}
use Rattle.board.specs.Board.{fresh_board, place_at}
use Rattle.board.specs.Sound.{sound_board}
use Rattle.moves.specs.declared.Turn.{Turn}
use Rattle.moves.specs.Answer.{Answer, answered}
use Rattle.moves.specs.Enter.{enter_with}
use Rattle.moves.specs.Turn.{turn_with}
use Rattle.run.specs.declared.Run.{Run}

-- what an opening gives, what entering gives, and what a turn gives: the refusal's number, 0 where it was carried out, or the
-- turn's answer, and the run after it
pub record Opened : Type 0 where
  pub refusal : ℕ
  pub run : Run

pub record Entered : Type 0 where
  pub refusal : ℕ
  pub run : Run

pub record Turned : Type 0 where
  pub answer : Answer
  pub run : Run

abbrev pub opened : After Run ⊤ → Opened
opened a = record { refusal = refused_by a.answer; run = a.state }

abbrev pub entered : After Run ⊤ → Entered
entered a = record { refusal = refused_by a.answer; run = a.state }

abbrev pub turned : After Run Turn → Turned
turned a = record { answer = answered a.answer; run = a.state }

-- a run as it opens
unfoldable pub fresh : ℕ → ℕ → Run
fresh w c = record { width = w; construction = c; board = fresh_board }

-- opening: 1, 2; a refused opening gives a record of width 0 and construction 0, the rest as at opening
unfoldable pub open_of : ℕ → ℕ → Opened
open_of w c = record { refusal = open_no w c; run = cond (eqb (open_no w c) 0) (fresh w c) (fresh 0 0) }

unfoldable pub depth_in : Run → ℕ
depth_in x = depth_of x.width x.construction

unfoldable pub sound : Run → Bool
sound x = width_ok x.width && construction_ok x.construction && sound_board x.width (depth_in x) x.board

abbrev pub with_board : Run → Board → Run
with_board x b = record { width = x.width; construction = x.construction; board = b }

-- token t on entry wire v: 9, 4, 5, 6, 7
unfoldable pub enter_of : Run → ℕ → ℕ → Entered
enter_of x t v =
    let e = enter_with (sound x) x.width x.board t v in
    record { refusal = e.refusal; run = with_board x e.board }

-- the place that the wire of token t feeds at its level
unfoldable pub feeds_of : Run → ℕ → ℕ
feeds_of x t = place_of x.width x.construction (place_at x.board t).level (place_at x.board t).wire

-- a turn of token t: 9, 4, 8; the wires of the last level are the exits
unfoldable pub turn_of : Run → ℕ → Turned
turn_of x t =
    let m = turn_with (sound x) x.width (depth_in x) x.board t (feeds_of x t) (place_at x.board t).wire in
    record { answer = m.answer; run = with_board x m.board }
