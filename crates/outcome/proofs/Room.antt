-- The output room that a schedule wants: `room_enough`. Each token inside stands for 6 bytes of the schedule that no report has
-- used yet: its enter left them, and the turn that deals takes them with its own 6. In order: the tokens inside; a call; a record;
-- a schedule; the whole call. Assumes nothing.
use Prim.Native.Nat.{ℕ, suc, ◌+◌, ◌*◌, ◌<◌, ◌≤◌}
use mathlib.Core.Path.{◌≡◌, refl}
use mathlib.Core.Bool.{Bool}
use mathlib.Core.List.{List, [], ◌++◌}
use native.Mathlib.Omega.{arith}
use lib.Dec.{eqb, ltb}
use lib.ListN.{length, set, length-append}
use borrow.Author.Tests.{eqb-true, ltb-false, le-leb}
use Rattle.network.specs.Widths.{open_no}
use Rattle.board.specs.declared.Place.{Place}
use Rattle.board.specs.declared.Board.{Board}
use Rattle.board.specs.Board.{free_place, fresh_board, place_at}
use Rattle.board.specs.Sound.{inside_one, inside_sum}
use Rattle.moves.specs.Enter.{at, enter_no, entering, enter_with}
use Rattle.moves.specs.Turn.{Moved, turn_no, passing, dealing, turn_with}
use Rattle.board.proofs.Lists.{cond_case, sum_set, sum_replicate}
use Rattle.board.proofs.Sound.{Shaped}
use Rattle.moves.proofs.Refusals.{can_enter, can_turn}
use Rattle.run.specs.declared.Run.{Run}
use Rattle.run.specs.Run.{fresh, open_of, sound, enter_of, turn_of}
use Rattle.records.specs.declared.Record.{Record}
use Rattle.records.specs.declared.Record.TheVariants.{Open, Enter, Turn, Close, Number}
use Rattle.outcome.specs.Outcome.{Outcome, Accepted, Refused}
use Rattle.outcome.specs.Course.{Course, at_start, Step}
use Rattle.outcome.specs.Step.{report_of, place_no, served_of, step_of}
use Rattle.outcome.specs.Schedule.{Told, tell}
use Rattle.outcome.specs.Whole.{settle, run_of, values_of}
use Rattle.outcome.specs.Room.{Room}
use Rattle.outcome.proofs.Ready.{Ready, ready_start, ready_step}
use Rattle.outcome.proofs.Reports.{length_report_of}
use Rattle.outcome.proofs.Told.{Stepped, place, told_from}

-- ---- the tokens inside: none on a board as it opens; one place is set
pub inside_fresh : inside_sum fresh_board ≡ 0
unfolding fresh_board inside_sum
inside_fresh = sum_replicate inside_one free_place 256 refl

inside_set : (x y : Board) (t : ℕ) (p : Place) → Shaped x → t < 256 → y.places ≡ set x.places t p
    → inside_sum y + inside_one (place_at x t) ≡ inside_sum x + inside_one p
unfolding place_at inside_sum
inside_set x y t p s l e = rw e (sum_set free_place inside_one x.places t p (omega (arith, s.places)))

-- ---- a call: 6 bytes of its record and 6 for each token fewer inside pay for the report
abbrev pub Paid : Board → List ℕ → Board → Type 0
Paid x report y = length report + 6 * inside_sum y ≤ 6 * inside_sum x + 6

paid_open : (x : Board) (w c : ℕ) → Paid x [] (open_of w c).run.board
unfolding open_of fresh
paid_open x w c =
    cond_case (λ (y : Run). Paid x [] y.board) (eqb (open_no w c) 0) (fresh w c) (fresh 0 0)
    (λ _. omega (arith, inside_fresh))
    (λ _. omega (arith, inside_fresh))

module _ (x : Board) (s : Shaped x) (t : ℕ) (good : Bool) (w : ℕ) where
  paid_enter : (v : ℕ) → Paid x [] (enter_with good w x t v).board
  unfolding enter_with entering
  paid_enter v =
      cond_case (Paid x []) (eqb (enter_no good w x t v) 0) (entering x t v) x
      (λ e. omega (arith, inside_set x (entering x t v) t (at 0 v) s (can_enter good w x t v (eqb-true _ 0 e)).token refl))
      (λ _. omega arith)

  abbrev PaidBy : Moved → Type 0
  PaidBy m = Paid x (report_of t m.answer) m.board

  paid_turn : (d feeds exit : ℕ) → PaidBy (turn_with good w d x t feeds exit)
  unfolding turn_with passing dealing report_of
  paid_turn d feeds exit =
      let passed = passing w x t feeds in
      let dealt = dealing w x t exit in
      cond_case PaidBy (eqb (turn_no good x t) 0) _ _
      (λ e.
      let can = can_turn good x t (eqb-true _ 0 e) in
      let freed = rw can.inside at (inside_set x dealt.board t free_place s can.token refl) in
      cond_case PaidBy (ltb (place_at x t).level d) passed dealt
      (λ _. omega (arith, inside_set x passed.board t _ s can.token refl))
      (λ _. omega (arith, length_report_of t dealt.answer, freed)))
      (λ _. omega arith)

-- ---- a record
module _ (x : Course) (ready : Ready x) where
  abbrev pub PaidIn : Step → Type 0
  PaidIn y = Paid x.run.board y.report y.course.run.board

  paid_served : (r : Record) → PaidIn (served_of x.run r)
  unfolding served_of enter_of turn_of
  paid_served (Open w c) = paid_open x.run.board w c
  paid_served (Enter t v) = paid_enter x.run.board ready.shaped t (sound x.run) x.run.width v
  paid_served (Turn t) = paid_turn x.run.board ready.shaped t (sound x.run) x.run.width _ _ _
  paid_served (Close e) = omega arith
  paid_served (Number t v n) = omega arith

  pub paid_step : (r : Record) → PaidIn (step_of x r)
  unfolding step_of
  paid_step r = cond_case PaidIn (eqb (place_no x.phase r) 0) _ _ (λ _. paid_served r) (λ _. omega arith)

-- ---- a schedule: the bytes up to the offset `at` pay for the reports done
record Kept (s : List ℕ) (x : Course) (at : ℕ) (done : List ℕ) : Type 0 where
  ready : Ready x
  within : at ≤ length s
  paid : length done + 6 * inside_sum x.run.board ≤ at

kept_start : (s : List ℕ) → Kept s at_start 0 []
unfolding at_start fresh
kept_start s = record { ready = ready_start; within = omega arith; paid = omega (arith, inside_fresh) }

kept_step : {s : List ℕ} {x : Course} {at len : ℕ} {done : List ℕ} {y : Step} → Kept s x at done → Stepped s x at len y → y.refusal ≡ 0
    → Kept s y.course (at + len) (done ++ y.report)
kept_step {x = x} {done = done} {y = y} k p h = record {
  ready = rw (← p.did) at (ready_step x k.ready p.item (rw (← p.did) h));
  within = (place p).within;
  paid = omega (arith, k.paid, (place p).onward, length-append done y.report, rw (← p.did) at (paid_step x k.ready p.item));
}

-- what is told of it
record Bounded (s : List ℕ) (t : Told) : Type 0 where
  reports : length t.reports ≤ length s
  bytes : (values_of t.outcome).bytes ≤ length s
  number : (values_of t.outcome).refusal ≡ 17 → ⊥

bounded_tell : (s : List ℕ) → Bounded s (tell s)
unfolding tell values_of
bounded_tell s =
    told_from s (Bounded s) (λ more. Kept s) (λ k n at present f. record { reports = omega arith; bytes = omega arith; number = f.other })
    (λ more x at done k closed end.
    record { reports = omega (arith, k.paid, k.within); bytes = omega (arith, k.paid, k.within); number = λ e. omega arith })
    (λ more x at len done y. kept_step) (suc (length s)) at_start 0 0 [] (kept_start s)

-- ---- the whole call: with room for the bytes told, the outcome stands
settle_fits : (o : Outcome) (reports : List ℕ) (room : ℕ) → (values_of o).bytes ≤ room → settle (record { outcome = o; reports = reports }) room ≡ o
unfolding settle values_of
settle_fits (Accepted w c e b) reports room fits = rw (le-leb b room fits)
settle_fits (Refused k n at p) reports room fits = refl

pub room_enough : Room
unfolding run_of values_of
room_enough = record {
  within = λ s. (bounded_tell s).reports;
  never_17 = λ s room wide.
      let told = bounded_tell s in
      cond_case (λ (o : Outcome). (values_of o).refusal ≡ 17 → ⊥) (ltb 65536 (length s)) _ _
      (λ _ e. omega arith)
      (λ short e.
      let fits : (values_of (tell s).outcome).bytes ≤ room = omega (arith, told.bytes, ltb-false 65536 (length s) short) in
      told.number (rw (settle_fits (tell s).outcome (tell s).reports room fits) at e));
}
