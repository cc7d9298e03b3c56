-- `feed_sheet::rows_ok` meets its contract: all rows are judged, in order. Assumes nothing.
use Rattle.std.proofs.Common.{◌∙◌, refl, arith, rules}
use borrow.Author.Tests.{tests}
use Rattle.std.proofs.lemmas.Iterator.{YieldsList-from_range}
use Rattle.std.proofs.lemmas.Iterator.Search.{all_from_yields_List}
use Rattle.feed_sheet.specs.Limits.{permutation}
use Rattle.feed_sheet.specs.Sheet.{row_at}
use Rattle.feed_sheet.proofs.Sheet.{row_wide, rows_ok_list}
use Rattle.feed_sheet.proofs.rows_ok.Goals as goal

pub returns : goal.returns
returns c =
    let sheet = c.args.sheet.now in
    let w = c.args.width in
    all_from_yields_List (λ L. permutation (row_at w sheet L)) _ _ _ c.all.ensures.ran
    (YieldsList-from_range 0 c.args.rows c.args.rows refl (omega arith)) (λ L b q k. search (rules, tests, row_wide))
    ∙ rows_ok_list w sheet c.args.rows
