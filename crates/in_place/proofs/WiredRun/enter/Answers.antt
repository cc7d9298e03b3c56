-- `in_place::WiredRun::enter` meets its contract: one token more is inside. Assumes nothing.
use Rattle.std.proofs.Common.{ℕ, ◌+◌, ap, ◌∙◌}
use Rattle.run.specs.Run.{depth_in}
use Rattle.in_place.proofs.Steps.{steady_entered, one_more}
use Rattle.in_place.proofs.WiredRun.enter.Goals as goal

pub invariant_of-self : goal.invariant_of-self
unfolding depth_in
invariant_of-self c =
    let x = c.args.self.now in
    let there = c.place_at-from.ensures in
    let ok = c.in_ok-check_enter.ensures in
    record {
      counted = ap (λ (n : ℕ). n + 1) x.counted ∙ rw c.put_in.ensures (one_more x.run x.steady _ _ _ there ok);
      deep = x.deep;
      wired = record { rows = x.wired.rows };
      steady = rw c.put_in.ensures (steady_entered x.run x.steady _ _ _ there ok);
    }
