-- `network::part_place` meets its contract, by recursion on the width. Assumes nothing.
use Rattle.std.proofs.Common.{◌∙◌, arith}
use Rattle.network.specs.Wiring.{feed_at}
use Rattle.network.proofs.Parts.{part_fed_at}
use Rattle.network.proofs.+part_place.Goals as goal

pub returns : goal.returns
unfolding feed_at
returns t c =
    let half = c.half-half in
    c.past.ensures
    ∙ rw (c.part_place-x.ensures, c.fed_by-to.ensures)
    (part_fed_at c.args.feed _ _ _ _ c.args.layer (omega arith) half.ensures.levels half.result.power half.ensures.wires _ c.if-layer-half.false c.feed_at.ensures c.args.v)
