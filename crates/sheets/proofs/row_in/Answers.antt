-- `sheets::row_in` meets its contract: a row that is shown lies within the sheet. Assumes nothing.
use mathlib.Core.Path.{sym, ◌∙◌}
use Rattle.sheets.proofs.Sheets.{allowed, view_within}
use Rattle.sheets.proofs.row_in.Goals as goal

pub slice_bounds-result-end-2 : goal.slice_bounds-result-end-2
slice_bounds-result-end-2 c = view_within c.args.width c.args.construction c.args.layer _ (sym c.check_view_in.ensures ∙ allowed _ c.if-is_err.ensures.value)
