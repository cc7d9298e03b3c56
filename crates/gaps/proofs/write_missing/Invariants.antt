-- `gaps::write_missing` meets its contract. The invariant: the missing numbers passed are written, and counted. Assumes nothing.
use Rattle.gaps.specs.Counts.{of_counts}
use Rattle.gaps.proofs.Counts.{Walked}
use Rattle.gaps.proofs.write_missing.Given as goal

abbrev pub invariant-loop-v : goal.invariant-loop-v
invariant-loop-v l = Walked l.w (of_counts l.counts) l.initial.out l.at l.v l.out
