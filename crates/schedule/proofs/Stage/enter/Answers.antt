-- `schedule::Stage::enter` meets its contract: in its phase the run is sound. Assumes nothing.
use Rattle.std.proofs.Common.{sym, ap}
use Rattle.std.proofs.lemmas.List.{append-nil}
use Rattle.order.specs.Order.{first_of}
use Rattle.run.specs.Run.{Entered}
use Rattle.outcome.specs.Course.{course}
use Rattle.outcome.specs.Step.{phase_no, place_no, served_of, step_of}
use Rattle.outcome.proofs.Ready.{its_phase}
use Rattle.schedule.proofs.Stage.enter.Goals as goal

pub returns : goal.returns
unfolding step_of served_of place_no phase_no first_of
returns c =
    let running = its_phase 1 _ (sym c.in_ok-check_phase.ensures) in
    let e = c.in_ok-enter.ensures (c.requires.underway running) in
    record {
      number = rw running (ap (λ (y : Entered). y.refusal) e);
      course = rw running (ap (λ (y : Entered). course 1 y.run) e);
      reports = rw running (sym (append-nil _));
    }
