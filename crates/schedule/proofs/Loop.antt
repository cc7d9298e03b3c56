-- One pass over a schedule's bytes. In order: the loop's test; what holds at its head; the ways out; a record read there: what it asks, and that the
-- head is reached again. Assumes nothing.
use mathlib.Core.Path.{◌≡◌, refl, sym, ◌∙◌, ap}
use mathlib.Core.Bool.{true, false, not}
use mathlib.Core.List.{List, ◌++◌}
use Prim.Native.Nat.{ℕ, suc, ◌+◌, ◌-◌, ◌*◌, ◌<◌, ◌≤◌}
use native.Mathlib.Nat.{sub-zero}
use native.Mathlib.Omega.{arith}
use lib.ListN.{length, length-append}
use denote.Enum.Bare.{sameb}
use Rattle.std.proofs.Common.{Ok, Err}
use Rattle.order.specs.declared.Refusal.{Refusal}
use Rattle.order.specs.declared.Refusal.TheVariants.{OutOfPlace}
use Rattle.order.specs.Order.{number_of}
use Rattle.order.proofs.Numbers.{number_some}
use Rattle.board.specs.Sound.{inside_sum}
use Rattle.run.specs.Run.{fresh}
use Rattle.records.specs.declared.Got.{Got as GotRecord}
use Rattle.records.specs.declared.Unread.{Unread}
use Rattle.records.specs.Reading.{read_by}
use Rattle.outcome.specs.Course.{Course, at_start, Step}
use Rattle.outcome.specs.Step.{step_of}
use Rattle.outcome.specs.Schedule.{Told, stopped, accepted, record_at, tell_from, tell}
use Rattle.outcome.proofs.Ready.{Ready, ready_start, ready_step}
use Rattle.outcome.proofs.Told.{At, Stepped, place, Rest, rest_late, rest_whole, rest_unread, rest_refused, rest_passed}
use Rattle.outcome.proofs.Room.{inside_fresh, paid_step}
use Rattle.schedule.specs.contracts.Phase.{the_type}
use Rattle.schedule.specs.declared.Phase.{Phase}
use Rattle.schedule.specs.declared.Phase.TheVariants.{Before, Running, Closed}
use Rattle.schedule.specs.Phases.{phase_of}
use Rattle.schedule.specs.declared.Stage.{Stage}
use Rattle.schedule.specs.Serving.{course_in, Servable, Serves}
use Rattle.schedule.specs.Pass.{Passable, PassIs}

-- ---- the loop's test
pub running : (p : Phase) → true ≡ not (sameb the_type p Closed) → phase_of p ≡ 2 → ⊥
running Before h e = omega arith
running Running h e = omega arith
running Closed h e = cc

pub closed : (p : Phase) → false ≡ not (sameb the_type p Closed) → phase_of p ≡ 2
closed Before h = cc
closed Running h = cc
closed Closed h = refl

-- ---- what holds at the loop's head: record n at the offset `at`, the schedule at x with the reports done, and the bytes before the
-- offset pay for them
pub record Going (s : List ℕ) (x : Course) (done : List ℕ) (at n : ℕ) : Type 0 where
  pub short : length s ≤ 65536
  pub within : at ≤ length s
  pub few : n ≤ at
  pub ready : Ready x
  pub paid : length done + 6 * inside_sum x.run.board ≤ at
  pub same : tell_from (suc (length s) - n) s x at n done ≡ tell s

none_inside : inside_sum at_start.run.board ≡ 0
unfolding at_start fresh
none_inside = inside_fresh

pub begins : {s : List ℕ} {g : Stage} → Passable s g → Going s (course_in g) g.reports 0 0
unfolding tell
begins p =
    rw (p.start, p.none)
    (record {
      short = p.short;
      within = omega arith;
      few = omega arith;
      ready = ready_start;
      paid = omega (arith, none_inside);
      same = rw sub-zero;
    })

-- ---- a way out
module _ {s : List ℕ} (g : Stage) {at n : ℕ} (h : Going s (course_in g) g.reports at n) where
  few : n ≤ length s
  few = omega (arith, h.few, h.within)

  is_stopped : (e : Refusal) (present : ℕ) {done : List ℕ} → Rest s (course_in g) at n g.reports few ≡ stopped (number_of e) n at present
      → PassIs s (Err (record { refusal = e; «record» = n; offset = at; present = present })) done
  is_stopped e present told =
      record { outcome = ap (λ (t : Told). t.outcome) (sym told ∙ h.same); reports = tt; bytes = tt }

  pub ends_late : phase_of g.phase ≡ 2 → at < length s
      → PassIs s (Err (record { refusal = OutOfPlace; «record» = n; offset = at; present = 0 })) g.reports
  ends_late end l = is_stopped OutOfPlace 0 (rest_late s (course_in g) at n g.reports few end l)

  pub ends_whole : phase_of g.phase ≡ 2 → length s ≤ at
      → PassIs s (Ok (record {
        width = g.wired.run.width;
        construction = g.wired.run.construction;
        entries = g.wired.run.board.entered;
        bytes = length g.reports;
      })) g.reports
  ends_whole end l =
      let told : accepted (course_in g) g.reports ≡ tell s = sym (rest_whole s (course_in g) at n g.reports few end l) ∙ h.same in
      record { outcome = ap (λ (t : Told). t.outcome) told; reports = ap (λ (t : Told). t.reports) told; bytes = refl }

  module _ (not_yet : phase_of g.phase ≡ 2 → ⊥) where
    pub ends_unread : (u : Unread) → read_by (Err u) ≡ record_at s at
        → PassIs s (Err (record { refusal = u.refusal; «record» = n; offset = at; present = u.present })) g.reports
    ends_unread u read = is_stopped u.refusal u.present (rest_unread s (course_in g) at n g.reports few not_yet _ _ (sym read))

    -- ---- a record read at the head
    module _ {q : GotRecord} (read : read_by (Ok q) ≡ record_at s at) where
      abbrev given : Step
      given = step_of (course_in g) q.record

      stepped : Stepped s (course_in g) at q.length given
      stepped = record { running = not_yet; item = q.record; read = sym read; did = refl }

      pub spot : At s at q.length
      spot = place stepped

      -- the record's own bytes, and those that the tokens inside stand for, pay for its report
      paid : length (g.reports ++ given.report) + 6 * inside_sum given.course.run.board ≤ at + q.length
      paid =
          omega (arith, length-append g.reports given.report, h.paid, spot.onward, paid_step (course_in g) h.ready q.record)

      pub servable : Servable g q.record
      servable = record {
        underway = h.ready.underway;
        room = omega (arith, length-append g.reports given.report, paid, spot.within, h.short);
      }

      module _ (g' : Stage) where
        pub ends_refused : (e : Refusal) → Serves g q.record (Err e) g'
            → PassIs s (Err (record { refusal = e; «record» = n; offset = at; present = 0 })) g'.reports
        ends_refused e d =
            let told = rest_refused s (course_in g) at n g.reports few q.length given stepped (λ z. number_some e (d.number ∙ z)) in
            is_stopped e 0 (told ∙ ap (λ (k : ℕ). stopped k n at 0) (sym d.number))

        pub goes_on : Serves g q.record (Ok (tt {0})) g' → Going s (course_in g') g'.reports (at + q.length) (n + 1)
        goes_on d =
            let carried = sym d.number in
            rw (d.course, d.reports)
            (record {
              short = h.short;
              within = spot.within;
              few = omega (arith, h.few, spot.onward);
              ready = ready_step (course_in g) h.ready q.record carried;
              paid = paid;
              same = sym (rest_passed s (course_in g) at n g.reports few q.length given stepped carried) ∙ h.same;
            })
