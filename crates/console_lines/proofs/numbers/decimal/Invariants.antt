-- `console_lines::numbers::decimal` meets its contract. The invariant: the digits passed spell the value. Assumes nothing.
use Rattle.console_lines.proofs.Digits.{Passed}
use Rattle.console_lines.proofs.numbers.decimal.Given as goal

abbrev pub invariant-loop-glyph : goal.invariant-loop-glyph
invariant-loop-glyph l = Passed l.text l.value l.glyph-index
