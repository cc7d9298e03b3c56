-- `leaves::named` meets its contract. Assumes nothing.
use Rattle.std.proofs.lemmas.Result.{err_from_is_err_and}
use Rattle.designs.specs.Panels.{named}
use Rattle.leaves.proofs.Filling.{kept_same}
use Rattle.leaves.proofs.Laying.{judged_made, judged_refused}
use Rattle.leaves.proofs.named.Goals as goal

pub returns-in_err-judged : goal.returns-in_err-judged
returns-in_err-judged c =
    let p = err_from_is_err_and c.from_residual.result c.from_residual.ensures.1 in
    rw (← c.field_of_two-width.ensures, ← c.field_of_two-construction.ensures, p.1, p.2) (judged_refused _ (named _ _) c.check_open.ensures _ c.in_err-judged.ensures (kept_same _ _ _))

pub returns : goal.returns
returns c =
    rw (← c.field_of_two-width.ensures, ← c.field_of_two-construction.ensures, c.depth_of.ensures)
    (judged_made _ (named _ _) c.check_open.ensures c.in_ok-judged.ensures c.put_network.ensures)
