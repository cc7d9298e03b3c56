-- `console_lines::numbers::is_pairs` meets its contract. Assumes nothing.
use Rattle.std.proofs.Common.{rules, tests, is_some}
use Rattle.std.proofs.lemmas.Iterator.{YieldsList-from_slice}
use Rattle.std.proofs.lemmas.Iterator.Search.{all_from_yields_List}
use Rattle.console_lines.specs.Digits.{digit_in}
use Rattle.console_lines.specs.Hex.{is_pairs}
use Rattle.console_lines.proofs.Hex.{digits_all}
use Rattle.console_lines.proofs.numbers.is_pairs.Goals as goal

pub returns : goal.returns
unfolding is_pairs
returns c =
    let all = all_from_yields_List (λ glyph. is_some (digit_in 16 glyph)) _ _ c.all-digits.result c.all-digits.ensures.ran (YieldsList-from_slice c.args.text.now cc) (λ x b q k. search (rules, tests)) in
    rw (← digits_all c.args.text.now, ← all)
