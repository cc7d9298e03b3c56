-- Demand 3, on files: `filed_schedules`. The course of a schedule follows the history of its calls, and what is dealt in it is as
-- demand 3 says. In order: at the end of a schedule; from a record on; the output. Assumes nothing.
use Prim.Native.Nat.{ℕ, suc, ◌+◌, ◌*◌, ◌≤◌}
use mathlib.Core.Path.{◌≡◌, refl, sym, ap, ◌∙◌}
use mathlib.Core.List.{List, [], ◌++◌, append_assoc, append-nil}
use native.Mathlib.Decide.{dec_lt}
use native.Mathlib.Omega.{arith}
use lib.Dec.{ltb, leb}
use lib.ListN.{length, take, drop}
use lib.Seq.{take_at}
use Rattle.order.specs.Order.{first_of}
use Rattle.network.specs.Widths.{width_ok, construction_ok, open_no}
use Rattle.board.specs.Sound.{inside_sum}
use Rattle.board.proofs.Lists.{cond_case}
use Rattle.run.specs.declared.Run.{Run}
use Rattle.outcome.specs.Outcome.{Outcome, Accepted, Refused}
use Rattle.outcome.specs.Course.{Course, course, at_start, Step}
use Rattle.outcome.specs.Schedule.{Told, stopped, accepted, tell}
use Rattle.outcome.proofs.Told.{Fault, Stepped, told_from}
use Rattle.outcome.specs.Whole.{settle, run_of, after_run, output_of, Values, values_of}
use Rattle.promise.specs.History.{Call, Deal, history, times}
use Rattle.promise.specs.Promise.{Promise}
use Rattle.promise.proofs.Promise.{demand_3}
use Rattle.promise.proofs.Reached.{Reached, reached_size, history_reached}
use Rattle.filed.specs.Calls.{call_in, calls_from, calls_in}
use Rattle.filed.specs.Filed.{reports_of, Filed, FiledSchedules}
use Rattle.filed.proofs.Calls.{calls_got, calls_none}
use Rattle.filed.proofs.Reports.{length_reports}
use Rattle.filed.proofs.Course.{Reported, Follows, follows_step}

-- what is to be shown of what is told, with the calls of the schedule
Files : List Call → Told → Type 0
Files calls t = (values_of t.outcome).refusal ≡ 0 → Filed calls t.reports (values_of t.outcome)

files_stopped : (calls : List Call) (k n at present : ℕ) → Fault k → Files calls (stopped k n at present)
unfolding Files values_of
files_stopped calls k n at present f h = absurd (f.some h)

-- ---- at the end
-- as many numbers are dealt as have entered, 12 bytes each
length_reported : {x : Run} {dealt : List Deal} → Reached x dealt → inside_sum x.board ≡ 0
    → length (reports_of dealt) ≡ 12 * x.board.entered
length_reported r z = length_reports _ ∙ omega (arith, reached_size r)

module _ {x : Run} {calls : List Call} {done : List ℕ} (r : Reported x calls done) (z : inside_sum x.board ≡ 0) where
  abbrev dealt : List Deal
  dealt = (history x.width x.construction calls).deals

  promised : Promise x.width x.board dealt
  promised = rw (← r.run) at (demand_3.holds x.width x.construction calls r.allowed)

  reached : Reached x dealt
  reached = rw (← r.run) at (history_reached x.width x.construction r.allowed calls)

  files_reported : (p : ℕ) → Files calls (accepted (course p x) done)
  unfolding Files values_of
  files_reported p h = record {
    allowed = r.allowed;
    rest = rw (← r.run) z;
    entered = rw (← r.run);
    reported = r.reports;
    each_once = promised.at_rest z;
    no_other = λ v l. elim (dec_lt 0 (times v dealt)) [
      | yes some ↦ absurd (omega (arith, promised.below v some))
      | no none ↦ omega arith
    ];
    size = ap length r.reports ∙ length_reported reached z;
  }

files_accepted : {x : Course} {calls : List Call} {done : List ℕ} → Follows x calls done → x.phase ≡ 2 → Files calls (accepted x done)
unfolding at_start
files_accepted Follows.unopened h = absurd (omega arith)
files_accepted (Follows.underway r) h = absurd (omega arith)
files_accepted (Follows.closed r z) h = files_reported r z 2

-- ---- record by record: the course follows the calls so far, and with those from here on they are those of the schedule
record Along (s : List ℕ) (all : List Call) (more : ℕ) (x : Course) (at : ℕ) (done : List ℕ) : Type 0 where
  pub calls : List Call
  pub follows : Follows x calls done
  pub whole : calls ++ calls_from more s at ≡ all

along_passed : (s : List ℕ) (all : List Call) (more : ℕ) (x : Course) (at len : ℕ) (done : List ℕ) (y : Step) → Along s all (suc more) x at done
    → Stepped s x at len y → y.refusal ≡ 0 → Along s all more y.course (at + len) (done ++ y.report)
along_passed s all more x at len done y a p h = record {
  calls = a.calls ++ call_in p.item;
  follows = rw p.did (follows_step a.follows p.item (rw p.did at h));
  whole = rw (append_assoc, ← calls_got more s at p.item len p.read) a.whole;
}

files_whole : (s : List ℕ) (all : List Call) (more : ℕ) (x : Course) (at : ℕ) (done : List ℕ) → Along s all (suc more) x at done → x.phase ≡ 2
    → length s ≤ at → Files all (accepted x done)
files_whole s all more x at done a closed end =
    rw (← a.whole, calls_none more s at end, append-nil) (files_accepted a.follows closed)

files_tell : (s : List ℕ) → Files (calls_in s) (tell s)
unfolding tell calls_in
files_tell s =
    told_from s (Files (calls_in s)) (Along s (calls_in s)) (files_stopped (calls_in s)) (files_whole s (calls_in s)) (along_passed s (calls_in s))
    (suc (length s)) at_start 0 0 [] (record { calls = []; follows = Follows.unopened; whole = refl })

-- ---- the output
length_filed : {calls : List Call} {reports : List ℕ} {a : Values} → Filed calls reports a → length reports ≡ a.bytes
length_filed {calls} {a = a} f =
    ap length f.reported
    ∙ length_reported (history_reached a.width a.construction f.allowed calls) f.rest
    ∙ ap (λ (n : ℕ). 12 * n) f.entered
    ∙ sym f.size

module _ (calls : List Call) (reports out : List ℕ) where
  Writes : Outcome → Type 0
  Writes r = (values_of r).refusal ≡ 0 → Filed calls (take (values_of r).bytes (after_run r reports out)) (values_of r)

  writes_refused : (k n at present : ℕ) → (k ≡ 0 → ⊥) → Writes (Refused k n at present)
  unfolding Writes values_of
  writes_refused k n at present apart h = absurd (apart h)

  writes_settled : (o : Outcome) → Files calls (record { outcome = o; reports = reports })
      → Writes (settle (record { outcome = o; reports = reports }) (length out))
  unfolding settle Writes Files after_run values_of open_no width_ok construction_ok first_of
  writes_settled (Accepted w c e b) f =
      cond_case Writes (leb b (length out)) _ _
      (λ l h.
      let front : take b (after_run (Accepted w c e b) reports out) ≡ reports = take_at reports (drop (length reports) out) b (length_filed (f h)) in
      rw front (f h))
      (λ l. writes_refused 17 0 0 0 (λ z. omega arith))
  writes_settled (Refused k n at present) f = λ h. let never : ◌≡◌ {A = ℕ} 1 0 = (f h).allowed in absurd (omega arith)

pub filed_schedules : FiledSchedules
unfolding Files Writes run_of output_of
filed_schedules = record {
  told = files_tell;
  written = λ s out.
      cond_case (Writes (calls_in s) (tell s).reports out) (ltb 65536 (length s)) _ _
      (λ l. writes_refused (calls_in s) _ out 16 0 0 0 (λ z. omega arith))
      (λ l. writes_settled (calls_in s) (tell s).reports out (tell s).outcome (files_tell s));
}
