-- `leaves::cross` meets its contract: its places are the one row. Assumes nothing.
use Rattle.std.proofs.Common.{◌≡◌, sym, ap, ◌∙◌, drop}
use Rattle.std.proofs.lemmas.Result.{err_from_is_err_and}
use Rattle.order.specs.Order.{refused_by}
use Rattle.designs.specs.Panels.{cross}
use Rattle.designs.specs.Leaves.{cross_no}
use Rattle.leaves.proofs.Filling.{kept_same}
use Rattle.leaves.proofs.Laying.{laying_first, laying_all, cross_row, judged_made, judged_refused, rest_is}
use Rattle.leaves.proofs.cross.Goals.{After-check_cross}
use Rattle.leaves.proofs.cross.Goals as goal

own : (c : After-check_cross) → refused_by c.check_cross.result ≡ cross_no (drop 1 c.args.inner.bytes.now)
own c = c.check_cross.ensures ∙ ap cross_no (rest_is c.args.inner.bytes.now 1)

pub returns-in_err-judged : goal.returns-in_err-judged
returns-in_err-judged c =
    let p = err_from_is_err_and c.from_residual.result c.from_residual.ensures.1 in
    rw (p.1, p.2) (judged_refused _ (cross _) (own (goal.at.returns-in_err-judged c).After-check_cross) _ c.in_err-judged.ensures (kept_same _ _ _))

pub put_places-requires : goal.put_places-requires
put_places-requires c = (cross_row _ (sym c.check_cross.ensures ∙ c.in_ok-judged.ensures)).below

pub returns : goal.returns
returns c =
    let is = own (goal.at.returns c).After-check_cross in
    let rest = rest_is c.args.inner.bytes.now 1 in
    let row = cross_row _ (sym is ∙ c.in_ok-judged.ensures) in
    rw rest (judged_made _ (cross _) is c.in_ok-judged.ensures (laying_all (laying_first (cross _) _ _ (rw rest at c.put_places.ensures) row)))
