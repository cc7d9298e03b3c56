-- `leaves::put_network` meets its contract: the rows passed stand in the grid. Assumes nothing.
use Rattle.std.proofs.Common.{◌≡◌, take, rules, arith}
use Rattle.network.specs.Widths.{depth_of}
use Rattle.network.proofs.Widths.{allowed, width_small}
use Rattle.designs.specs.Panels.{named}
use Rattle.leaves.proofs.Laying.{RowOf, laying_none, laying_more, laying_all, network_row, exit_row}
use Rattle.leaves.proofs.put_network.Goals.{After-row-places, After-in_order}
use Rattle.leaves.proofs.put_network.Goals as goal

row : (c : After-row-places) → RowOf c.args.width ((named c.args.width c.args.construction).place c.loop-layer.layer) (take c.args.width c.row-places.result)
row c = network_row c.args.width c.args.construction c.loop-layer.invariant.0 _ _ (search rules) (rw c.depth_of-depth.ensures at c.loop-layer-test.true) c.row-places.ensures

exits : (c : After-in_order) → RowOf c.args.width ((named c.args.width c.args.construction).place (depth_of c.args.width c.args.construction)) (take c.args.width c.in_order.result)
exits c = exit_row c.args.width c.args.construction c.loop-layer.invariant.0 _ (search rules) c.in_order.ensures

pub loop-layer-init : goal.loop-layer-init
loop-layer-init c = (width_small _ (allowed _ _ c.requires.1).width, laying_none _ _ _ _)

pub put_places-requires : goal.put_places-requires
put_places-requires c = (row (goal.at.put_places-requires c).After-row-places).below

pub loop-layer-preserved : goal.loop-layer-preserved
loop-layer-preserved c = (c.loop-layer.invariant.0, laying_more c.loop-layer.invariant.1 c.put_places.ensures (row (goal.at.loop-layer-preserved c).After-row-places))

pub returns : goal.returns
returns c =
    let last : c.loop-layer.layer ≡ depth_of c.args.width c.args.construction = omega (arith, c.depth_of-depth.ensures) in
    laying_all (laying_more (rw last at c.loop-layer.invariant.1) (rw c.depth_of-depth.ensures at c.put_places-2.ensures) (exits (goal.at.returns c).After-in_order))
