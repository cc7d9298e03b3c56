-- `panels::sized` meets its contract. Assumes nothing.
use Rattle.std.proofs.Common.{sym, ◌∙◌}
use Rattle.std.proofs.lemmas.Result.{err_from_is_err_and}
use borrow.Author.Tests.{eq-eqb, ne_eqb}
use Rattle.leaves.specs.Told.{told_at}
use Rattle.panels.proofs.sized.Goals as goal

pub returns-in_err-judged : goal.returns-in_err-judged
unfolding told_at
returns-in_err-judged c =
    let p = err_from_is_err_and c.from_residual.result c.from_residual.ensures.1 in
    let x = c.in_err-judged.ensures in
    rw (p.1, p.2, ← c.check_size.ensures, ne_eqb _ 0 x.some, x.told)

pub returns : goal.returns
unfolding told_at
returns c = rw (eq-eqb _ 0 (sym c.check_size.ensures ∙ c.in_ok-judged.ensures))
