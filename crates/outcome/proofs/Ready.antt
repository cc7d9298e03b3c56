-- Through a schedule nothing moves before the open, and the run stays sound from the open to the close, so that no record has to
-- judge it. Assumes nothing.
use mathlib.Core.Path.{◌≡◌, refl}
use mathlib.Core.Bool.{true, not}
use mathlib.Core.List.{[]}
use Prim.Native.Nat.{ℕ}
use native.Mathlib.Omega.{arith}
use lib.Dec.{eqb}
use borrow.Author.Tests.{not-false, eqb-true, eq-eqb}
use Rattle.order.proofs.Order.{cleared}
use Rattle.board.specs.Board.{fresh_board}
use Rattle.board.proofs.Lists.{cond_case}
use Rattle.run.specs.declared.Run.{Run}
use Rattle.run.specs.Run.{fresh, open_of, sound}
use Rattle.run.proofs.Keeps.{Shaped, shaped_fresh, shaped_enter, shaped_turn, fresh_sound, enter_keeps, turn_keeps}
use Rattle.records.specs.declared.Record.{Record}
use Rattle.records.specs.declared.Record.TheVariants.{Open, Enter, Turn, Close, Number}
use Rattle.outcome.specs.Course.{Course, course, at_start, Step}
use Rattle.outcome.specs.Step.{phase_no, place_no, served_of, step_of}

pub record Ready (x : Course) : Type 0 where
  pub shaped : Shaped x.run
  pub unopened : x.phase ≡ 0 → x.run.board ≡ fresh_board
  -- between the open and the close
  pub underway : x.phase ≡ 1 → sound x.run ≡ true

ready_sound : (y : Run) → Shaped y → sound y ≡ true → Ready (course 1 y)
ready_sound y s h = record { shaped = s; unopened = λ e. absurd (omega arith); underway = λ e. h }

-- after the close nothing is asked of the run
ready_closed : (y : Run) → Shaped y → Ready (course 2 y)
ready_closed y s = record { shaped = s; unopened = λ e. absurd (omega arith); underway = λ e. absurd (omega arith) }

pub ready_start : Ready at_start
unfolding at_start fresh
ready_start = record { shaped = shaped_fresh 0 0; unopened = λ e. refl; underway = λ e. absurd (omega arith) }

ready_open : (w c : ℕ) → (open_of w c).refusal ≡ 0 → Ready (course 1 (open_of w c).run)
unfolding open_of
ready_open w c h = rw (eq-eqb _ 0 h) (ready_sound (fresh w c) (shaped_fresh w c) (fresh_sound w c h))

-- a record in its place finds its phase
pub its_phase : (own p : ℕ) → phase_no own p ≡ 0 → p ≡ own
unfolding phase_no
its_phase own p h = eqb-true p own (not-false _ (cleared (not (eqb p own)) 13 [] h).fails)

module _ (x : Course) (ready : Ready x) where
  ready_served : (r : Record) → place_no x.phase r ≡ 0 → (served_of x.run r).refusal ≡ 0 → Ready (served_of x.run r).course
  unfolding place_no served_of
  ready_served (Open w c) p h = ready_open w c h
  ready_served (Enter t v) p h =
      ready_sound _ (shaped_enter x.run ready.shaped t v) (enter_keeps x.run t v ready.shaped (ready.underway (its_phase 1 _ p)))
  ready_served (Turn t) p h =
      ready_sound _ (shaped_turn x.run ready.shaped t) (turn_keeps x.run t ready.shaped (ready.underway (its_phase 1 _ p)))
  ready_served (Close e) p h = ready_closed x.run ready.shaped
  ready_served (Number t v n) p h = absurd (omega arith)

  pub ready_step : (r : Record) → (step_of x r).refusal ≡ 0 → Ready (step_of x r).course
  unfolding step_of
  ready_step r =
      cond_case (λ (y : Step). y.refusal ≡ 0 → Ready y.course) (eqb (place_no x.phase r) 0) _ _
      (λ p. ready_served r (eqb-true _ 0 p))
      (λ p h. ready)
