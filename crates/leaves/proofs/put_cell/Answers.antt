-- `leaves::put_cell` meets its contract: both rows are in order. Assumes nothing.
use Rattle.std.proofs.Common.{rules, arith}
use Rattle.designs.specs.Panels.{cell}
use Rattle.leaves.proofs.Laying.{RowOf, laying_first, laying_more, laying_all, front_row}
use Rattle.leaves.proofs.put_cell.Goals.{After-in_order-wires}
use Rattle.leaves.proofs.put_cell.Goals as goal

row : (c : After-in_order-wires) → RowOf 2 (λ v. v) (lib.ListN.take 2 c.in_order-wires.result)
row c = front_row (λ v. v) 2 _ (search rules) (omega arith) (λ v l. c.in_order-wires.ensures v (omega arith)) (λ v l. l)

pub put_places-requires : goal.put_places-requires
put_places-requires c = (row (goal.at.put_places-requires c).After-in_order-wires).below

pub put_places-requires-2 : goal.put_places-requires-2
put_places-requires-2 c = (row (goal.at.put_places-requires-2 c).After-in_order-wires).below

pub returns : goal.returns
returns c = let r = row (goal.at.returns c).After-in_order-wires in laying_all (laying_more (laying_first cell _ _ c.put_places.ensures r) c.put_places-2.ensures r)
