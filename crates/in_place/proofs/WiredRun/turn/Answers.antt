-- `in_place::WiredRun::turn` meets its contract: below the depth the table has the place that the token's wire feeds, and a number dealt
-- leaves one token fewer inside. Assumes nothing.
use Rattle.std.proofs.Common.{◌∙◌, sym, ap, arith}
use Rattle.moves.specs.Turn.{Moved}
use Rattle.run.specs.Run.{depth_in}
use Rattle.in_place.proofs.Steps.{can_turn, wire_below, count_few, steady_passed, none_less, steady_dealt, one_less}
use Rattle.in_place.proofs.WiredRun.turn.Goals as goal

pub feeds_at-feeds-requires : goal.feeds_at-feeds-requires
feeds_at-feeds-requires c =
    let x = c.args.self.now in
    (rw x.deep at c.if-place-self.true, wire_below x.run x.steady _ _ c.place_at-place.ensures c.in_ok-check_turn.ensures)

pub invariant_of-self : goal.invariant_of-self
unfolding depth_in
invariant_of-self c =
    let x = c.args.self.now in
    let there = c.place_at-place.ensures in
    let ok = c.in_ok-check_turn.ensures in
    let l = rw x.deep at c.if-place-self.true in
    let m = ap (λ (m : Moved). m.board) c.pass.ensures in
    record {
      counted = x.counted ∙ rw m (sym (none_less x.run x.steady _ _ there ok l _ c.feeds_at-feeds.ensures));
      deep = x.deep;
      wired = record { rows = x.wired.rows };
      steady = rw m (steady_passed x.run x.steady _ _ there ok l _ c.feeds_at-feeds.ensures);
    }

pub overflow_sub-self : goal.overflow_sub-self
overflow_sub-self c =
    let x = c.args.self.now in
    omega (arith, x.counted, one_less x.run x.steady _ _ c.place_at-place.ensures c.in_ok-check_turn.ensures)

pub deal-requires : goal.deal-requires
deal-requires c =
    let x = c.args.self.now in
    let there = c.place_at-place.ensures in
    let ok = c.in_ok-check_turn.ensures in
    ((can_turn x.run x.steady _ _ there ok).token, (x.steady.width, count_few x.run x.steady _ _ there ok _))

pub invariant_of-self-2 : goal.invariant_of-self-2
unfolding depth_in
invariant_of-self-2 c =
    let x = c.args.self.now in
    let there = c.place_at-place.ensures in
    let ok = c.in_ok-check_turn.ensures in
    let m = ap (λ (m : Moved). m.board) c.deal.ensures in
    record {
      counted = rw m (omega (arith, x.counted, one_less x.run x.steady _ _ there ok));
      deep = x.deep;
      wired = record { rows = x.wired.rows };
      steady = rw m (steady_dealt x.run x.steady _ _ there ok);
    }
