-- `network::part_row` meets its contract, by recursion on the width. Assumes nothing.
use Rattle.std.proofs.Common.{◌∙◌, arith}
use Rattle.network.proofs.Parts.{part_last, part_inner, part_fed}
use Rattle.network.proofs.+part_row.Goals as goal

pub returns-then-layer-half : goal.returns-then-layer-half
returns-then-layer-half t c =
    let half = c.half-half in
    c.last_row.ensures ∙ part_last c.args.feed _ _ _ _ c.args.layer (omega arith) half.ensures.levels half.result.power half.ensures.wires c.if-layer-half.true

pub feed_row-requires : goal.feed_row-requires
feed_row-requires t c =
    let half = c.half-half in
    (half.ensures.low, part_inner c.args.feed _ _ _ _ c.args.layer (omega arith) half.ensures.levels half.result.power half.ensures.wires _ c.part_row-inner.ensures)

pub returns : goal.returns
returns t c =
    let half = c.half-half in
    c.feed_row.ensures ∙ part_fed c.args.feed _ _ _ _ c.args.layer (omega arith) half.ensures.levels half.result.power half.ensures.wires _ c.part_row-inner.ensures _ c.if-layer-half.false c.feed_at.ensures
