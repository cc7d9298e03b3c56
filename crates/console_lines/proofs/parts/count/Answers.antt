-- `console_lines::parts::count` meets its contract. Assumes nothing.
use native.Mathlib.Omega.{arith}
use mathlib.Core.Path.{◌≡◌}
use Rattle.std.proofs.Common.{rules, tests, length, eqb}
use Rattle.std.proofs.lemmas.Iterator.Consumers.{count_from_yields_List}
use Rattle.std.proofs.lemmas.Iterator.Splits.{YieldsList-from_slice_split}
use Rattle.std.proofs.lemmas.List.Splits.{length-slice_split}
use Rattle.std.proofs.lemmas.List.Sums.{count_by-le-length}
use Rattle.console_lines.specs.Marked.{parts_of, part_count}
use Rattle.console_lines.proofs.parts.count.Goals as goal

pub returns : goal.returns
unfolding part_count
returns c =
    let mark = c.args.mark in
    let text = c.args.text.now in
    let whole : c.count.result ≡ length (parts_of mark text) = count_from_yields_List c.split.result _ c.count.ensures.ran (YieldsList-from_slice_split _ (λ glyph. eqb glyph mark) text c.split.ensures.rest c.split.ensures.done c.split.ensures.closure (λ x b q k. search (rules, tests))) in
    record { whole = whole; most = omega (arith, length-slice_split (λ glyph. eqb glyph mark) text, count_by-le-length (λ glyph. eqb glyph mark) text) }
