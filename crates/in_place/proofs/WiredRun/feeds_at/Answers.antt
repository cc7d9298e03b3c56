-- `in_place::WiredRun::feeds_at` meets its contract: the table has it. Assumes nothing.
use Rattle.std.proofs.Common.{arith}
use Rattle.in_place.proofs.Steps.{layer_small, wire_small, fed}
use Rattle.in_place.proofs.WiredRun.feeds_at.Goals as goal

pub bounds-self-from : goal.bounds-self-from
bounds-self-from c =
    let x = c.args.self.now in
    omega (arith, c.from.ensures, layer_small x.run x.steady _ _ c.requires.0 c.requires.1)

pub bounds-self-from-2 : goal.bounds-self-from-2
bounds-self-from-2 c =
    let x = c.args.self.now in
    omega (arith, c.from-2.ensures, wire_small x.run x.steady _ _ c.requires.0 c.requires.1)

pub returns : goal.returns
returns c =
    let x = c.args.self.now in
    rw (c.from.ensures, c.from-2.ensures) (fed x.run x.steady _ _ c.requires.0 c.requires.1 x.wired)
