-- `network::bitonic_row` meets its contract, by recursion on the width. Assumes nothing.
use Rattle.std.proofs.Common.{◌∙◌, arith}
use Rattle.network.proofs.Parts.{bitonic_inner, bitonic_fed, bitonic_merged}
use Rattle.network.proofs.+bitonic_row.Goals as goal

pub feed_row-requires : goal.feed_row-requires
feed_row-requires t c =
    let half = c.half-half in
    (half.ensures.low, bitonic_inner _ _ _ _ c.args.layer _ (grind arith) half.ensures.levels half.result.power half.ensures.wires c.bitonic_depth-before.ensures c.if-layer-before.true _ c.bitonic_row-inner.ensures)

pub returns-then-layer-before : goal.returns-then-layer-before
returns-then-layer-before t c =
    let half = c.half-half in
    c.feed_row.ensures ∙ bitonic_fed _ _ _ _ c.args.layer _ (grind arith) half.ensures.levels half.result.power half.ensures.wires c.bitonic_depth-before.ensures c.if-layer-before.true _ c.bitonic_row-inner.ensures

pub returns : goal.returns
returns t c =
    let half = c.half-half in
    c.part_row.ensures ∙ bitonic_merged _ _ _ _ c.args.layer _ (grind arith) half.ensures.levels half.result.power half.ensures.wires c.bitonic_depth-before.ensures c.if-layer-before.false
