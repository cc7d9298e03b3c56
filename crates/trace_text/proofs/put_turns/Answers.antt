-- `trace_text::put_turns` meets its contract. The loop's invariant: the lines of the records left, put where the text has got to, give
-- the whole. The measure is the bytes left. Assumes nothing.
use mathlib.Core.Path.{sym, ap, ◌∙◌}
use native.Mathlib.Omega.{arith}
use Rattle.order.specs.Order.{first_of}
use Rattle.network.specs.Widths.{width_ok, open_no}
use Rattle.run.specs.Run.{Opened, open_of}
use Rattle.records.specs.Reading.{read_by}
use Rattle.outcome.specs.Course.{at_start}
use Rattle.outcome.proofs.Told.{record_part}
use Rattle.trace_text.proofs.Lines.{begins, ends_unread, ends_whole, Spot, Gives, inside, goes_on, gives_open, gives_enter, gives_turn, gives_silent}
use Rattle.trace_text.proofs.put_turns.Goals.{Joined-record, in-Open, in-Enter, in-Turn, in-Close}
use Rattle.trace_text.proofs.put_turns.Goals as goal

pub turns-init : goal.turns-init
unfolding at_start open_of open_no width_ok first_of
turns-init c = begins _ _ _ _ (ap (λ (o : Opened). o.run) c.«open».ensures)

pub returns-in_default : goal.returns-in_default
returns-in_default c =
    ends_unread c.turns.invariant
    (c.read_in_schedule.ensures ∙ record_part _ _ c.turns-test.true) (ap read_by c.in_default.is)

abbrev spot : Joined-record → Spot
spot c =
    record {
      s = _;
      at = _;
      out₀ = _;
      x = _;
      next = _;
      from = _;
      out = _;
      item = _;
      len = _;
      going = c.turns.invariant;
      read = sym (c.in-Ok.ensures ∙ record_part _ _ c.turns-test.true);
    }

gives : (c : Joined-record) → Gives (spot c) c.match-record.run c.match-record.next c.match-record.out
gives c =
    let x = spot c in
    elim c.match-record.branch [
      | in-Open w ↦ rw (w.out-is, w.run-is, w.next-is) (gives_open x w.in-Open.is w.open-in-Open.ensures)
      | in-Enter w ↦ rw (w.out-is, w.run-is, w.next-is) (gives_enter x w.in-Enter.is w.enter.ensures)
      | in-Turn w ↦ rw (w.out-is, w.run-is, w.next-is) (gives_turn x w.in-Turn.is w.turn-turned.ensures w.put_turn-next.ensures)
      | in-Close w ↦ rw (w.out-is, w.run-is, w.next-is) (gives_silent x w.in-Close.is)
    ]

pub overflow_add-from : goal.overflow_add-from
overflow_add-from c = omega (arith, (inside (spot c)).within)

pub turns-smaller : goal.turns-smaller
turns-smaller c = omega (arith, (inside (spot c)).within, (inside (spot c)).onward)

pub turns-preserved : goal.turns-preserved
turns-preserved c = goes_on (spot c) (gives c)

pub returns : goal.returns
returns c = ends_whole c.turns.invariant c.turns-test.false
