-- `network::row` meets its contract: a layer below the depth is one of a width w = 2^k. Assumes nothing.
use Rattle.std.proofs.Common.{◌<◌, ◌≤◌, ◌∙◌}
use Rattle.network.specs.Widths.{depth_of}
use Rattle.network.specs.Rows.{place_of, array_of, tabulate}
use Rattle.network.proofs.Widths.{layered, levels_small}
use Rattle.network.proofs.Rows.{row_array_is, row_array_none}
use Rattle.network.proofs.row.Goals as goal

pub invariant_of-width : goal.invariant_of-width
invariant_of-width c =
    let there : c.args.layer < depth_of c.args.width c.args.construction = rw c.depth_of.ensures at c.if-layer-depth_of.true in
    rw c.levels_of-levels.ensures (record { few = levels_small c.args.width; power = (layered c.args.width c.args.construction c.args.layer there).power })

pub built_row-requires : goal.built_row-requires
unfolding depth_of
built_row-requires c = rw (c.levels_of-levels.ensures, ← c.depth_of.ensures) c.if-layer-depth_of.true

pub returns-then-layer-depth_of : goal.returns-then-layer-depth_of
unfolding place_of
returns-then-layer-depth_of c =
    let there : c.args.layer < depth_of c.args.width c.args.construction = rw c.depth_of.ensures at c.if-layer-depth_of.true in
    c.built_row.ensures ∙ rw c.levels_of-levels.ensures (row_array_is c.args.width c.args.construction c.args.layer there)

pub returns : goal.returns
unfolding array_of tabulate
returns c =
    let none : depth_of c.args.width c.args.construction ≤ c.args.layer = rw c.depth_of.ensures at c.if-layer-depth_of.false in
    row_array_none c.args.width c.args.construction c.args.layer none
