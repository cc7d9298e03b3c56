-- What is told of a schedule from a record on. In order: a record that is read and carried out; the definition at each way out of
-- the loop and at a record passed; what holds of every schedule, record by record. Assumes nothing.
use mathlib.Core.Path.{◌≡◌, refl, sym, ◌∙◌, ap}
use mathlib.Core.Bool.{Bool, true, false, cond}
use mathlib.Core.List.{List, ◌++◌}
use Prim.Native.Nat.{ℕ, zero, suc, ◌+◌, ◌-◌, ◌<◌, ◌≤◌}
use native.Mathlib.Omega.{arith}
use lib.ListN.{length, take, drop, length-drop}
use lib.Seq.{take_all, drop-drop}
use lib.Dec.{ltb, eqb}
use borrow.Author.Tests.{lt-ltb, le-ltb, ltb-true, ltb-false, eq-eqb, ne_eqb, eqb-true, eqb-false}
use Rattle.board.proofs.Lists.{cond_case}
use Rattle.records.specs.declared.Record.{Record}
use Rattle.records.specs.declared.Record.TheVariants.{Turn}
use Rattle.records.specs.Fields.{field}
use Rattle.records.specs.Reading.{Read, Got, Refused as Unread, length_of, known, kind_in, record_in, read_no, read_of}
use Rattle.records.proofs.Reading.{Whole, whole→read, read_length}
use Rattle.outcome.specs.Course.{Course, Step}
use Rattle.outcome.specs.Step.{step_of}
use Rattle.outcome.specs.Schedule.{Told, stopped, accepted, record_at, on_read, tell_from}
use Rattle.outcome.proofs.Faults.{read_no_other, refusal_other}

-- ---- the record at an offset
-- the part of a slice from a place on, as the code lends it
pub record_part : (s : List ℕ) (at : ℕ) → at < length s → read_of false (take (length s - at) (drop at s)) ≡ record_at s at
unfolding record_at
record_part s at h = rw (take_all (length s - at) (drop at s) (simp length-drop (omega arith)), lt-ltb _ _ h)

pub record_none : (s : List ℕ) (at : ℕ) → length s ≤ at → Unread 14 0 ≡ record_at s at
unfolding record_at
record_none s at h = rw (le-ltb _ _ h)

-- six bytes that begin with the head of a turn
pub record_turn : (s : List ℕ) (at t : ℕ) → at + 6 ≤ length s → field 2 s at ≡ 6 → field 2 s (at + 2) ≡ 3 → t ≡ field 2 s (at + 4) → Got (Turn t) 6 ≡ record_at s at
unfolding record_at record_in length_of known
record_turn s at t fits size kind token =
    let d = drop at s in
    let long : 6 ≤ length d = simp length-drop (omega arith) in
    let is-kind : kind_in d ≡ 3 = rw (drop-drop 2 at s) kind in
    let field_is : field 2 d 4 ≡ t = rw (drop-drop 4 at s) (sym token) in
    let whole : Whole false d = record {
      head = omega arith;
      of_kind = rw is-kind;
      told = rw is-kind size;
      body = rw is-kind long;
    } in
    rw (lt-ltb at (length s) (omega arith), whole→read false d whole, is-kind, field_is)

-- a number that a record is refused by: never that of the output room
pub record Fault (k : ℕ) : Type 0 where
  pub some : k ≡ 0 → ⊥
  pub other : k ≡ 17 → ⊥

late : Fault 14
late = record { some = λ e. omega arith; other = λ e. omega arith }

read_fault : (b : Bool) (q : Record) (m n p k present : ℕ) → (n ≡ 17 → ⊥) → eqb n 0 ≡ b → cond b (Got q m) (Unread n p) ≡ Unread k present → Fault k
read_fault true q m n p k present l e h = let never : ◌≡◌ {A = ℕ} 0 1 = cc in absurd (omega arith)
read_fault false q m n p k present l e h =
    let same : n ≡ k = cc in
    record { some = rw same at (eqb-false n 0 e); other = rw same at l }

-- a record that is there is read behind the offset; one that is not has a number
pub record At (s : List ℕ) (at len : ℕ) : Type 0 where
  pub more : at < length s
  pub onward : 6 ≤ len
  pub within : at + len ≤ length s

at_got : (b : Bool) (s : List ℕ) (at : ℕ) (item : Record) (len : ℕ) → ltb at (length s) ≡ b
    → cond b (read_of false (drop at s)) (Unread 14 0) ≡ Got item len → At s at len
at_got true s at item len e h =
    let more = ltb-true _ _ e in
    let l = read_length false (drop at s) item len h in
    record { more = more; onward = l.least; within = omega (arith, l.within, length-drop at s) }
at_got false s at item len e h = let never : ◌≡◌ {A = ℕ} 0 1 = cc in absurd (omega arith)

at_unread : (b : Bool) (s : List ℕ) (at k present : ℕ) → cond b (read_of false (drop at s)) (Unread 14 0) ≡ Unread k present → Fault k
unfolding read_of
at_unread true s at k present h = read_fault _ _ _ (read_no false (drop at s)) _ k present (read_no_other false (drop at s)) refl h
at_unread false s at k present h = let same : 14 ≡ k = cc in rw (← same) late

-- ---- a record that is read and carried out: what is known of it, at the course x and the offset `at`
pub record Stepped (s : List ℕ) (x : Course) (at len : ℕ) (y : Step) : Type 0 where
  pub running : x.phase ≡ 2 → ⊥
  pub item : Record
  pub read : record_at s at ≡ Got item len
  pub did : y ≡ step_of x item

pub place : {s : List ℕ} {x : Course} {at len : ℕ} {y : Step} → Stepped s x at len y → At s at len
unfolding record_at
place {s} {at = at} {len = len} p = at_got _ s at p.item len refl p.read

-- ---- the definition, from record n on
module _ (s : List ℕ) (x : Course) (at n : ℕ) (done : List ℕ) (few : n ≤ length s) where
  -- what is told from here, with the bound that the loop has come to
  abbrev pub Rest : Told
  Rest = tell_from (suc (length s) - n) s x at n done

  opens : Rest ≡ tell_from (suc (length s - n)) s x at n done
  opens = ap (λ (f : ℕ). tell_from f s x at n done) (omega arith)

  module _ (closed : x.phase ≡ 2) where
    pub rest_late : at < length s → Rest ≡ stopped 14 n at 0
    unfolding tell_from
    rest_late h = opens ∙ rw (eq-eqb _ 2 closed, lt-ltb _ _ h)

    pub rest_whole : length s ≤ at → Rest ≡ accepted x done
    unfolding tell_from
    rest_whole h = opens ∙ rw (eq-eqb _ 2 closed, le-ltb _ _ h)

  pub rest_unread : (x.phase ≡ 2 → ⊥) → (k present : ℕ) → record_at s at ≡ Unread k present → Rest ≡ stopped k n at present
  unfolding tell_from on_read
  rest_unread running k present e = opens ∙ rw (ne_eqb _ 2 running, e)

  module _ (len : ℕ) (y : Step) (p : Stepped s x at len y) where
    pub rest_refused : (y.refusal ≡ 0 → ⊥) → Rest ≡ stopped y.refusal n at 0
    unfolding tell_from on_read
    rest_refused h = opens ∙ rw (ne_eqb _ 2 p.running, p.read, ← p.did, ne_eqb _ 0 h)

    pub rest_passed : y.refusal ≡ 0 → Rest ≡ tell_from (suc (length s) - (n + 1)) s y.course (at + len) (n + 1) (done ++ y.report)
    unfolding tell_from on_read
    rest_passed h =
        let one_less : length s - n ≡ suc (length s) - (n + 1) = omega arith in
        opens
        ∙ rw (ne_eqb _ 2 p.running, p.read, ← p.did, eq-eqb _ 0 h)
        (ap (λ (f : ℕ). tell_from f s y.course (at + len) (n + 1) (done ++ y.report)) one_less)

-- ---- of every schedule: what holds where it is stopped and where it is accepted, and is kept by each record passed
read_case : (P : Told → Type 0) (q : Read) (f : Record → ℕ → Told) (g : ℕ → ℕ → Told)
    → ((r : Record) (len : ℕ) → q ≡ Got r len → P (f r len)) → ((k present : ℕ) → q ≡ Unread k present → P (g k present)) → P (on_read q f g)
unfolding on_read
read_case P (Got r len) f g a b = a r len refl
read_case P (Unread k present) f g a b = b k present refl

-- Kept: with the bound of the records still to come, at a course and an offset, and with reports done
module _ (s : List ℕ) (P : Told → Type 0) (Kept : ℕ → Course → ℕ → List ℕ → Type 0)
    (is-stopped : (k n at present : ℕ) → Fault k → P (stopped k n at present))
    (is-accepted : (more : ℕ) (x : Course) (at : ℕ) (done : List ℕ) → Kept (suc more) x at done → x.phase ≡ 2 → length s ≤ at
    → P (accepted x done))
    (is-passed : (more : ℕ) (x : Course) (at len : ℕ) (done : List ℕ) (y : Step) → Kept (suc more) x at done → Stepped s x at len y
    → y.refusal ≡ 0 → Kept more y.course (at + len) (done ++ y.report)) where
  pub told_from : (more : ℕ) (x : Course) (at n : ℕ) (done : List ℕ) → Kept more x at done → P (tell_from more s x at n done)
  unfolding tell_from record_at
  told_from zero x at n done kept = is-stopped 14 n at 0 late
  told_from (suc more) x at n done kept =
      cond_case P (eqb x.phase 2) _ _
      (λ closed. cond_case P (ltb at (length s)) (stopped 14 n at 0) (accepted x done)
      (λ l. is-stopped 14 n at 0 late)
      (λ l. is-accepted more x at done kept (eqb-true _ 2 closed) (ltb-false _ _ l)))
      (λ running. read_case P (record_at s at) _ _
      (λ r len q. let y = step_of x r in
      cond_case P (eqb y.refusal 0) (tell_from more s y.course (at + len) (n + 1) (done ++ y.report)) _
      (λ e. told_from more y.course (at + len) (n + 1) (done ++ y.report)
      (is-passed more x at len done y kept (record { running = eqb-false _ 2 running; item = r; read = q; did = refl }) (eqb-true _ 0 e)))
      (λ e. is-stopped y.refusal n at 0 (record { some = eqb-false _ 0 e; other = refusal_other x r })))
      (λ k present e. is-stopped k n at present (at_unread (ltb at (length s)) s at k present e)))
