-- `board::counts_zero` meets its contract. The invariant: what is found so far is so of the counts passed. Assumes nothing.
use Rattle.board.specs.Sound.{is_zero}
use Rattle.board.proofs.Lists.{all_taken}
use Rattle.board.proofs.counts_zero.Goals as goal

pub returns : goal.returns
returns c = rw (← c.beyond-c-items.ensures) (all_taken _ _ c.loop-c-test.false is_zero _ c.loop-c.invariant)
