-- `dials::past_all` meets its contract. The invariant: the exits below this one are passed. Assumes nothing.
use Rattle.std.proofs.Common.{◌≡◌}
use Rattle.dials.specs.Highest.{past_below}
use Rattle.dials.proofs.past_all.Given as goal

abbrev pub invariant-loop-exit : goal.invariant-loop-exit
invariant-loop-exit l = l.past ≡ past_below l.width l.sums l.exit
