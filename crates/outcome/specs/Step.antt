-- What one record of a schedule does (01, "Schedule bytes" and the order of a schedule: 14, the call's own order, 15).
-- Definitions only. Assumes nothing.
use Rattle.std.specs.Prelude.{ℕ, List, [], ◌∷◌, not, cond, eqb}
use Rattle.order.specs.Order.{◌⟶◌, first_of}
use Rattle.board.specs.Sound.{inside_sum}
use Rattle.moves.specs.Answer.{Answer, Passed, Dealt, Refused, values_of}
use Rattle.run.specs.declared.Run.{Run}
use Rattle.run.specs.Run.{open_of, enter_of, turn_of}
use Rattle.records.specs.declared.Record.{Record}
use Rattle.records.specs.declared.Record.TheVariants.{Open, Enter, Turn as TurnRecord, Close, Number}
use Rattle.records.specs.Writing.{bytes_of}
use Rattle.outcome.specs.Course.{Course, course, Step, step}

-- the report of a turn's answer, where a number was dealt to token t: a kind 5 record
unfoldable pub report_of : ℕ → Answer → List ℕ
report_of t (Passed l v L c o) = []
report_of t (Dealt i n) = bytes_of (Number t i n)
report_of t (Refused k) = []

-- a close: 15 while a token is inside, 15 where the count is not the entries
unfoldable pub close_no : Run → ℕ → ℕ
close_no x e = first_of ((not (eqb (inside_sum x.board) 0) ⟶ 15) ∷ (not (eqb x.board.entered e) ⟶ 15) ∷ [])

-- out of the one phase that a record belongs to: 14
unfoldable pub phase_no : ℕ → ℕ → ℕ
phase_no own p = first_of ((not (eqb p own) ⟶ 14) ∷ [])

-- why a record may not stand in a phase; a report may stand in none: 13
unfoldable pub place_no : ℕ → Record → ℕ
place_no p (Open w c) = phase_no 0 p
place_no p (Enter t v) = phase_no 1 p
place_no p (TurnRecord t) = phase_no 1 p
place_no p (Close e) = phase_no 1 p
place_no p (Number t v n) = 13

-- what a record in its place gives, by the call's own order; a report is never in its place
unfoldable pub served_of : Run → Record → Step
served_of x (Open w c) = step (open_of w c).refusal [] (course 1 (open_of w c).run)
served_of x (Enter t v) = let y = enter_of x t v in step y.refusal [] (course 1 y.run)
served_of x (TurnRecord t) = let y = turn_of x t in step (values_of y.answer).refusal (report_of t y.answer) (course 1 y.run)
served_of x (Close e) = step (close_no x e) [] (course 2 x)
served_of x (Number t v n) = step 13 [] (course 0 x)

unfoldable pub step_of : Course → Record → Step
step_of x r = let k = place_no x.phase r in cond (eqb k 0) (served_of x.run r) (step k [] x)
