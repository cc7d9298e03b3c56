-- `network::bitonic_place` meets its contract, by recursion on the width. Assumes nothing.
use Rattle.std.proofs.Common.{◌∙◌, arith}
use Rattle.network.specs.Wiring.{feed_at}
use Rattle.network.proofs.Parts.{bitonic_fed_at}
use Rattle.network.proofs.+bitonic_place.Goals as goal

pub returns : goal.returns
unfolding feed_at
returns t c =
    let half = c.half-half in
    c.past.ensures
    ∙ rw (c.bitonic_place-x.ensures, c.fed_by-to.ensures)
    (bitonic_fed_at _ _ _ _ c.args.layer _ (omega arith) half.ensures.levels half.result.power half.ensures.wires c.bitonic_depth-before.ensures c.if-before-layer.false c.args.v)
