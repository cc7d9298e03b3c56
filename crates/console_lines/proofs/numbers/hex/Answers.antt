-- `console_lines::numbers::hex` meets its contract. The invariant: the bytes passed are put. Assumes nothing.
use borrow.Author.Rules.{rules}
use Rattle.console_lines.proofs.Hex.{byte_is, byte_more}
use Rattle.console_lines.proofs.numbers.hex.Goals as goal

pub loop-i-preserved : goal.loop-i-preserved
loop-i-preserved c =
    let is = byte_is c.args.text.now c.loop-i.i _ _ c.digit.ensures c.digit-in-loop-i.ensures in
    byte_more _ _ c.loop-i.out _ (search rules) c.loop-i.invariant (rw (c.unwrap_or-high.ensures, c.unwrap_or-low.ensures) is)
