-- `in_place::WiredRun::open` meets its contract. Assumes nothing.
use Rattle.std.proofs.Common.{sym, subst}
use Rattle.run.specs.Run.{Opened, depth_in}
use Rattle.in_place.proofs.Steps.{Opening, opening_of}
use Rattle.in_place.proofs.WiredRun.open.Goals as goal

pub invariant_of-self : goal.invariant_of-self
unfolding depth_in
invariant_of-self c =
    let o = subst (λ (y : Opened). Opening y.run) (sym c.open-opened.ensures) (opening_of c.args.width c.args.construction) in
    record { counted = o.none; deep = c.depth_of-self.ensures; wired = record { rows = c.wire_up.ensures }; steady = o.steady }
