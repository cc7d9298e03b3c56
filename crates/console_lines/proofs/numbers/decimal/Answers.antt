-- `console_lines::numbers::decimal` meets its contract. The invariant: the digits passed spell the value. Assumes nothing.
use mathlib.Core.Path.{sym}
use borrow.Author.Rules.{rules}
use Rattle.std.proofs.Common.{inl, inr}
use Rattle.console_lines.proofs.Digits.{digit_some, digit_none, passed_more, digits_other, read_outside, read_other, read_number}
use Rattle.console_lines.proofs.numbers.decimal.Goals as goal
use Rattle.console_lines.proofs.numbers.decimal.Goals.{then-is_empty-via-then-is_empty, then-is_empty-via-else-is_empty+then-text-gt-MOST_DIGITS}

pub returns-then-is_empty : goal.returns-then-is_empty
returns-then-is_empty c =
    elim c.then-is_empty.branch [
      | then-is_empty-via-then-is_empty w ↦ read_outside (inl (search rules))
      | then-is_empty-via-else-is_empty+then-text-gt-MOST_DIGITS w ↦ read_outside (inr (search rules))
    ]

pub returns-in_err-digit : goal.returns-in_err-digit
returns-in_err-digit c =
    let none = digit_none 10 _ (sym c.in_err-digit.ensures) in
    rw c.from_residual.ensures (read_other (search rules) (search rules) (digits_other c.loop-glyph.invariant.digits (search rules) none))

pub loop-glyph-preserved : goal.loop-glyph-preserved
loop-glyph-preserved c =
    let some = digit_some 10 _ (sym c.in_ok-digit.ensures) in
    rw c.from.ensures (passed_more c.loop-glyph.invariant (search rules) some.0 some.1)

pub returns : goal.returns
returns c = rw c.then_some.ensures (read_number (search rules) (search rules) c.loop-glyph.invariant (search rules))
