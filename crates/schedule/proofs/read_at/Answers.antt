-- `schedule::read_at` meets its contract: six bytes with the head of a turn are that turn. Assumes nothing.
use native.Mathlib.Omega.{arith}
use mathlib.Core.Path.{sym, ◌∙◌}
use Rattle.outcome.proofs.Told.{record_turn}
use Rattle.schedule.proofs.read_at.Goals as goal

pub returns : goal.returns
returns c =
    record_turn _ _ _ (omega (arith, c.if-bytes-at-lt6.false, c.requires))
    (sym c.field_of_two.ensures ∙ c.if-field_of_two-ne6.false) (sym c.field_of_two-else-field_of_two-ne6.ensures ∙ c.if-field_of_two-ne3.false)
    c.field_of_two-token.ensures
