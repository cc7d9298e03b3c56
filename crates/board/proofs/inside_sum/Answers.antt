-- `board::inside_sum` meets its contract. The invariant: the sum so far is that of the places passed, at most one for each. Assumes
-- nothing.
use native.Mathlib.Omega.{arith}
use Rattle.board.specs.Sound.{inside_one}
use Rattle.board.proofs.Lists.{sum_taken}
use Rattle.board.proofs.inside_sum.Goals as goal

pub returns : goal.returns
returns c =
    let l = c.loop-p in
    (sum_taken c.args.places.now _ (omega (arith, c.told-places)) inside_one _ l.invariant.0, omega arith)
