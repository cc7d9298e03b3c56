-- `designs::first_of` meets its contract: none of the rules passed holds. Assumes nothing.
use Rattle.std.proofs.Common.{◌≡◌, map, drop}
use Rattle.order.specs.Order.{first_of}
use Rattle.designs.specs.Records.{rule_of}
use Rattle.designs.proofs.first_of.Given as goal

abbrev pub invariant-loop-when : goal.invariant-loop-when
invariant-loop-when l = first_of (map rule_of (drop l.when-index l.rules)) ≡ first_of (map rule_of l.rules)
