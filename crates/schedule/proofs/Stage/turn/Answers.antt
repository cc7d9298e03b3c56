-- `schedule::Stage::turn` meets its contract: in its phase the run is sound. Assumes nothing.
use Rattle.std.proofs.Common.{sym, ap, ◌∙◌}
use Rattle.std.proofs.lemmas.Result.{err_from_is_err_and}
use Rattle.order.specs.Order.{first_of}
use Rattle.moves.specs.Answer.{values_of}
use Rattle.run.specs.Run.{Turned}
use Rattle.outcome.specs.Course.{course}
use Rattle.outcome.specs.Step.{phase_no, place_no, served_of, step_of}
use Rattle.outcome.proofs.Ready.{its_phase}
use Rattle.schedule.proofs.Answered.{turned_zero}
use Rattle.schedule.proofs.Stage.turn.Goals as goal

pub returns-in_err-turn : goal.returns-in_err-turn
unfolding step_of served_of place_no phase_no first_of values_of
returns-in_err-turn c =
    let p = err_from_is_err_and c.from_residual-in_err-turn.result c.from_residual-in_err-turn.ensures.1 in
    let running = its_phase 1 _ (sym c.in_ok-check_phase.ensures) in
    let e = c.in_err-turn.ensures (c.requires.underway running) in
    rw (p.1, p.2) (record { number = rw running (ap (λ (y : Turned). (values_of y.answer).refusal) e); course = tt; reports = tt })

pub returns : goal.returns
unfolding step_of served_of place_no phase_no first_of
returns c =
    let running = its_phase 1 _ (sym c.in_ok-check_phase.ensures) in
    let e = c.in_ok-turn.ensures (c.requires.underway running) in
    record {
      number = rw running (turned_zero _ ∙ ap (λ (y : Turned). (values_of y.answer).refusal) e);
      course = rw running (ap (λ (y : Turned). course 1 y.run) e);
      reports = rw (running, c.note.ensures, ← e);
    }
