-- `text::put_decimal` meets its contract, by recursion on the number. Assumes nothing.
use native.Mathlib.Omega.{arith}
use Rattle.text.proofs.Text.{puts_then}
use Rattle.text.proofs.Numbers.{decimal_digit, decimal_more}
use Rattle.text.proofs.+put_decimal.Goals as goal

pub returns-then-x-lt10 : goal.returns-then-x-lt10
returns-then-x-lt10 t c = rw (← decimal_digit _ c.if-x-lt10.true) c.put_byte.ensures

pub returns : goal.returns
returns t c =
    rw
    (← decimal_more c.args.x c.if-x-lt10.false (omega arith))
    (puts_then c.put_decimal-next.ensures c.put_byte-2.ensures)
