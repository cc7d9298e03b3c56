-- Through a schedule the course follows a history: each record that is carried out is one call more, and its report that of the
-- number dealt. In order: the run and its reports; the course; a record. Assumes nothing.
use Prim.Native.Nat.{ℕ}
use mathlib.Core.Path.{◌≡◌, refl}
use mathlib.Core.Bool.{not}
use mathlib.Core.List.{List, [], ◌∷◌, ◌++◌, append-nil}
use native.Mathlib.Omega.{arith}
use lib.Dec.{eqb}
use borrow.Author.Tests.{not-false, eqb-true, eq-eqb}
use Rattle.order.specs.Order.{first_of}
use Rattle.order.proofs.Order.{cleared}
use Rattle.network.specs.Widths.{open_no}
use Rattle.board.specs.Sound.{inside_sum}
use Rattle.run.specs.declared.Run.{Run}
use Rattle.run.specs.Run.{fresh, open_of, enter_of, turn_of}
use Rattle.records.specs.declared.Record.{Record}
use Rattle.records.specs.declared.Record.TheVariants.{Open, Enter, Turn, Close, Number}
use Rattle.outcome.specs.Course.{Course, course, at_start, Step}
use Rattle.outcome.specs.Step.{close_no, phase_no, place_no, served_of, step_of}
use Rattle.promise.specs.History.{Call, enter, turn, call_of, calls_of, calls_by, history}
use Rattle.filed.specs.Calls.{call_in}
use Rattle.filed.specs.Filed.{reports_of}
use Rattle.filed.proofs.Calls.{history_more}
use Rattle.filed.proofs.Reports.{reports_append, reports_deal_of}

-- the run x after calls from an opening, with the reports done
pub record Reported (x : Run) (calls : List Call) (done : List ℕ) : Type 0 where
  pub allowed : open_no x.width x.construction ≡ 0
  pub run : x ≡ (history x.width x.construction calls).run
  pub reports : done ≡ reports_of (history x.width x.construction calls).deals

reported_open : (w c : ℕ) → open_no w c ≡ 0 → Reported (open_of w c).run [] []
unfolding open_of fresh history calls_of calls_by reports_of
reported_open w c h = let z = eq-eqb _ 0 h in rw z (record { allowed = h; run = rw z; reports = refl })

-- a close that is not refused finds none inside
close_empty : (x : Run) (e : ℕ) → close_no x e ≡ 0 → inside_sum x.board ≡ 0
unfolding close_no
close_empty x e h = eqb-true _ 0 (not-false _ (cleared (not (eqb (inside_sum x.board) 0)) 14 _ h).fails)

-- ---- the course
pub data Follows : Course → List Call → List ℕ → Type 0 where
  unopened : Follows at_start [] []
  underway : {x : Run} {calls : List Call} {done : List ℕ} → Reported x calls done → Follows (course 1 x) calls done
  closed : {x : Run} {calls : List Call} {done : List ℕ} → Reported x calls done → inside_sum x.board ≡ 0
      → Follows (course 2 x) calls done

-- a record is refused, or the course follows on with the record's call and report
module _ (calls : List Call) (done : List ℕ) where
  Onward : List Call → Step → Type 0
  Onward made y = y.refusal ≡ 0 → Follows y.course (calls ++ made) (done ++ y.report)

onward_open : (w c : ℕ) → Onward [] [] [] (step_of at_start (Open w c))
unfolding first_of place_no phase_no served_of step_of at_start open_of Onward
onward_open w c h = underway (reported_open w c h)

module _ {x : Run} {calls : List Call} {done : List ℕ} (r : Reported x calls done) where
  -- no call changes the width or the construction
  reported_call : (call : Call) → (call_of x call).run.width ≡ x.width → (call_of x call).run.construction ≡ x.construction
      → Reported (call_of x call).run (calls ++ (call ∷ [])) (done ++ reports_of (call_of x call).deals)
  reported_call call width construction =
      let more = history_more x.width x.construction calls call in
      record {
        allowed = rw (width, construction) r.allowed;
        run = rw (width, construction, more, ← r.run);
        reports = rw (width, construction, more, ← r.run, reports_append, ← r.reports);
      }

  onward_enter : (t v : ℕ) → Onward calls done (enter t v ∷ []) (step_of (course 1 x) (Enter t v))
  unfolding first_of place_no phase_no served_of step_of call_of enter_of reports_of Onward
  onward_enter t v h = underway (reported_call (enter t v) refl refl)

  onward_turn : (t : ℕ) → Onward calls done (turn t ∷ []) (step_of (course 1 x) (Turn t))
  unfolding first_of place_no phase_no served_of step_of call_of turn_of Onward
  onward_turn t h = rw reports_deal_of (underway (reported_call (turn t) refl refl))

  onward_close : (e : ℕ) → Onward calls done [] (step_of (course 1 x) (Close e))
  unfolding first_of place_no phase_no served_of step_of Onward
  onward_close e h = rw (append-nil calls, append-nil done) (closed r (close_empty x e h))

pub follows_step : {x : Course} {calls : List Call} {done : List ℕ} → Follows x calls done → (r : Record) → (step_of x r).refusal ≡ 0
    → Follows (step_of x r).course (calls ++ call_in r) (done ++ (step_of x r).report)
unfolding first_of place_no phase_no served_of step_of at_start Onward call_in
follows_step unopened (Open w c) h = onward_open w c h
follows_step unopened (Enter t v) h = absurd (omega arith)
follows_step unopened (Turn t) h = absurd (omega arith)
follows_step unopened (Close e) h = absurd (omega arith)
follows_step (underway r) (Open w c) h = absurd (omega arith)
follows_step (underway r) (Enter t v) h = onward_enter r t v h
follows_step (underway r) (Turn t) h = onward_turn r t h
follows_step (underway r) (Close e) h = onward_close r e h
follows_step (closed r z) (Open w c) h = absurd (omega arith)
follows_step (closed r z) (Enter t v) h = absurd (omega arith)
follows_step (closed r z) (Turn t) h = absurd (omega arith)
follows_step (closed r z) (Close e) h = absurd (omega arith)
follows_step f (Number t v n) h = absurd (omega arith)
