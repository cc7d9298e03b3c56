-- `leaves::grid::in_order` meets its contract: what the closure gives at each place. Assumes nothing.
use Rattle.std.proofs.Common.{rules}
use Rattle.leaves.proofs.grid.in_order.Goals as goal

pub returns : goal.returns
returns c = λ v h. let p = c.from_fn.ensures.items.at v 0 h in let q = p.2.met in search rules
