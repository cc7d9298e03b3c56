-- `in_place::WiredRun::unopened` meets its contract. Assumes nothing.
use Rattle.std.proofs.Common.{arith}
use Rattle.run.specs.Run.{fresh}
use Rattle.in_place.proofs.Steps.{unopened, no_depth}
use Rattle.in_place.proofs.WiredRun.unopened.Goals as goal

pub invariant_of-result : goal.invariant_of-result
unfolding fresh
invariant_of-result c =
    rw c.fresh.ensures
    (record { counted = unopened.none; deep = no_depth; wired = record { rows = λ L l. absurd (omega (arith, no_depth)) }; steady = unopened.steady })
