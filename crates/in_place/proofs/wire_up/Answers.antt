-- `in_place::wire_up` meets its contract: a row more is the table's, and those before it stay. Assumes nothing.
use Rattle.std.proofs.Common.{◌<◌, ◌≢◌, length, arith, length-set, get_or-set_same, get_or-set_other, below_more}
use Rattle.network.proofs.Widths.{depth_of_small}
use Rattle.in_place.proofs.wire_up.Goals as goal

pub bounds-table-from : goal.bounds-table-from
bounds-table-from c = omega (arith, c.depth_of-layer-end.ensures, depth_of_small c.args.width c.args.construction)

pub loop-layer-preserved : goal.loop-layer-preserved
loop-layer-preserved c =
    let layer = c.loop-layer.layer in
    let small = depth_of_small c.args.width c.args.construction in
    let there : layer < length c.loop-layer.table = omega (arith, c.depth_of-layer-end.ensures, small, c.loop-layer.invariant.long) in
    rw c.from.ensures
    (record {
      long = simp length-set c.loop-layer.invariant.long;
      rows = below_more _ _ (λ K h. let other : K ≢ layer = omega arith in rw get_or-set_other (c.loop-layer.invariant.rows K h))
          (rw get_or-set_same c.row.ensures);
    })
