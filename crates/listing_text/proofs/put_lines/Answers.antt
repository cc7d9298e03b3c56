-- `listing_text::put_lines` meets its contract. The loop's invariant: the lines of the reports left, put where the text has got to, give
-- the whole. Assumes nothing.
use Rattle.std.proofs.Common.{◌∙◌}
use Rattle.listing_text.proofs.Lines.{ends, goes_on}
use Rattle.listing_text.proofs.put_lines.Goals as goal

pub loop-report-preserved : goal.loop-report-preserved
loop-report-preserved c =
    let step = c.in-Some.ensures.steps in
    goes_on c.loop-report.invariant _ _ step.0 step.1.0 step.1.1 (c.from-token.ensures ∙ c.field_of_two.ensures) (c.from-exit.ensures ∙ c.field_of_two-in-loop-report.ensures) c.field_of_four-number.ensures c.put_three-next.ensures

pub returns : goal.returns
returns c = ends c.loop-report.invariant c.in-None.ensures.steps.1.0
