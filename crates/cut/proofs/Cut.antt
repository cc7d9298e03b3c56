-- Cut anywhere: `cut_anywhere`. The records before the cut are carried out as in the whole schedule, and the one that is cut is told.
-- In order: the record at an offset of the cut file; as far as the cut; record by record; the whole. Assumes nothing.
use Prim.Native.Nat.{ℕ, suc, ◌+◌, ◌-◌, ◌<◌, ◌≤◌}
use mathlib.Core.Path.{◌≡◌, refl, sym, ◌∙◌, ap}
use mathlib.Core.Bool.{Bool, false, cond}
use mathlib.Core.List.{List, [], ◌++◌}
use mathlib.Core.Logic.{◌⊎◌, inl, inr, ⊎_elim}
use native.Mathlib.Decide.{dec_lt, ℕ_discrete}
use native.Mathlib.Nat.{sub-zero}
use native.Mathlib.Omega.{arith}
use lib.ListN.{length, take, drop}
use lib.Seq.{length-take-le}
use lib.Dec.{ltb, eqb}
use borrow.Author.Tests.{lt-ltb, le-ltb, ltb-false, eq-eqb, ne_eqb}
use Rattle.std.proofs.lemmas.Slice.{between_is}
use Rattle.board.proofs.Lists.{cond_case}
use Rattle.records.specs.declared.Record.{Record}
use Rattle.records.specs.Reading.{Got, Refused as Unread, length_in, read_of}
use Rattle.records.proofs.Reading.{read→gotten, read_length}
use Rattle.records.proofs.Cut.{read_head_cut, read_whole, read_body_cut}
use Rattle.outcome.specs.Outcome.{Outcome, Accepted, Refused}
use Rattle.outcome.specs.Course.{Course, at_start, Step}
use Rattle.outcome.specs.Schedule.{Told, record_at, tell_from, tell}
use Rattle.outcome.specs.Whole.{settle, run_of, values_of}
use Rattle.outcome.proofs.Told.{Stepped, place, rest_unread, rest_passed, record_none, told_from}
use Rattle.cut.specs.Starts.{start_of, StandsIn}
use Rattle.cut.specs.Cut.{cut_no, cut_at, CutIs, CutAnywhere}
use Rattle.cut.proofs.Starts.{stands_only, start_next}

-- ---- a record of which n bytes are there
cut_record : (reports : Bool) (s : List ℕ) (r : Record) (len : ℕ) → read_of reports s ≡ Got r len → (n : ℕ) → n < len
    → read_of reports (take n s) ≡ Unread (cut_no n) n
unfolding cut_no
cut_record reports s r len read n h = elim (dec_lt n 4) [
  | yes l ↦ rw (lt-ltb n 4 l) (read_head_cut reports s n (omega (arith, (read_length reports s r len read).within)) l)
  | no l ↦ rw (le-ltb n 4 (omega arith)) (read_body_cut reports s r len read n (omega arith) h)
]

-- ---- the record at an offset, where the file ends at n
module _ (s : List ℕ) (n : ℕ) (short : n < length s) where
  abbrev front : List ℕ
  front = take n s

  length_front : length front ≡ n
  length_front = length-take-le n s (omega arith)

  -- what is read there, of the bytes that are there
  record_front : (at : ℕ) → at < n → record_at front at ≡ read_of false (take (n - at) (drop at s))
  unfolding record_at
  record_front at h = rw (length_front, lt-ltb at n h, ← between_is s at n)

  module _ (x : Course) (at len : ℕ) (y : Step) (p : Stepped s x at len y) where
    read : read_of false (drop at s) ≡ Got p.item len
    unfolding record_at
    read = rw (lt-ltb at (length s) (place p).more) at p.read

    length_told : length_in (drop at s) ≡ len
    length_told = let g = read→gotten false (drop at s) p.item len read in g.whole.told ∙ sym g.size

    passed_front : at + len ≤ n → Stepped front x at len y
    passed_front h = record {
      running = p.running;
      item = p.item;
      read = record_front at (omega (arith, (place p).onward))
          ∙ read_whole false (drop at s) p.item len read (n - at) (omega (arith, (place p).onward)) (omega arith);
      did = p.did;
    }

    cut_front : at ≤ n → n < at + len → record_at front at ≡ Unread (cond (eqb n at) 14 (cut_no (n - at))) (n - at)
    cut_front l h = elim (ℕ_discrete n at) [
      | yes e ↦ rw (eq-eqb n at e) (sym (record_none front at (omega (arith, length_front))) ∙ ap (Unread 14) (omega arith))
      | no e ↦ rw (ne_eqb n at e) (record_front at (omega arith) ∙ cut_record false (drop at s) p.item len read (n - at) (omega arith))
    ]

-- ---- record by record: the cut file comes to the same course, until a record is cut
record Going (s : List ℕ) (n : ℕ) (x : Course) (at : ℕ) (done : List ℕ) : Type 0 where
  number : ℕ
  few : number ≤ at
  within : at ≤ n
  starts : start_of s number ≡ at
  same : tell_from (suc (length (take n s)) - number) (take n s) x at number done ≡ tell (take n s)

record Cut (s : List ℕ) (n : ℕ) : Type 0 where
  number : ℕ
  stands : StandsIn s number n
  outcome : (tell (take n s)).outcome ≡ cut_at s number n

module _ (s : List ℕ) (n : ℕ) (short : n < length s) where
  abbrev Along : Course → ℕ → List ℕ → Type 0
  Along x at done = Cut s n ⊎ Going s n x at done

  along_start : Going s n at_start 0 []
  unfolding tell start_of
  along_start = record { number = 0; few = omega arith; within = omega arith; starts = refl; same = rw sub-zero }

  module _ (x : Course) (at len : ℕ) (done : List ℕ) (y : Step) (g : Going s n x at done) (p : Stepped s x at len y) where
    next : start_of s (g.number + 1) ≡ at + len
    next = start_next s g.number at len g.starts (length_told s n short x at len y p)

    few_front : g.number ≤ length (take n s)
    few_front = omega (arith, g.few, g.within, length_front s n short)

    is_cut : n < at + len → Cut s n
    unfolding cut_at
    is_cut h =
        let told = rest_unread (take n s) x at g.number done few_front p.running _ _ (cut_front s n short x at len y p g.within h) in
        let more : suc g.number ≡ g.number + 1 = omega arith in
        record {
          number = g.number;
          stands = record { starts = rw g.starts g.within; ends = rw (more, next) h };
          outcome = rw g.starts (ap (λ (t : Told). t.outcome) (sym g.same ∙ told));
        }

    goes_on : at + len ≤ n → y.refusal ≡ 0 → Going s n y.course (at + len) (done ++ y.report)
    goes_on h carried = record {
      number = g.number + 1;
      few = omega (arith, g.few, (place p).onward);
      within = h;
      starts = next;
      same = sym (rest_passed (take n s) x at g.number done few_front len y (passed_front s n short x at len y p h) carried) ∙ g.same;
    }

    along_passed : y.refusal ≡ 0 → Along y.course (at + len) (done ++ y.report)
    along_passed carried = elim (dec_lt n (at + len)) [
      | yes l ↦ inl (is_cut l)
      | no l ↦ inr (goes_on (omega arith) carried)
    ]

  -- what is to be shown of what is told of the whole schedule
  Shows : Told → Type 0
  Shows t = (values_of t.outcome).refusal ≡ 0 → Cut s n

  cut_told : Shows (tell s)
  unfolding Shows tell values_of
  cut_told =
      told_from s Shows (λ more. Along)
      (λ k r at present f e. absurd (f.some e))
      (λ more x at done a closed end e. ⊎_elim (λ c. c) (λ g. absurd (omega (arith, g.within, short, end))) a)
      (λ more x at len done y a p carried. ⊎_elim (λ c. inl c) (λ g. along_passed x at len done y g p carried) a)
      (suc (length s)) at_start 0 0 [] (inr along_start)

-- ---- the whole call
-- a schedule that is accepted is not too long, and none of its records is refused
record Unrefused (s : List ℕ) : Type 0 where
  most : length s ≤ 65536
  told : (values_of (tell s).outcome).refusal ≡ 0

settled : (o : Outcome) (reports : List ℕ) (room : ℕ) → (values_of (settle (record { outcome = o; reports = reports }) room)).refusal ≡ 0
    → (values_of o).refusal ≡ 0
unfolding settle values_of
settled (Accepted w c e b) reports room h = refl
settled (Refused k n at present) reports room h = h

accepts : (s : List ℕ) (room : ℕ) → (values_of (run_of s room)).refusal ≡ 0 → Unrefused s
unfolding run_of values_of
accepts s room =
    cond_case (λ (o : Outcome). (values_of o).refusal ≡ 0 → Unrefused s) (ltb 65536 (length s)) _ _
    (λ l h. absurd (omega arith))
    (λ l h. record { most = ltb-false _ _ l; told = settled (tell s).outcome (tell s).reports room h })

cut_schedule : (s : List ℕ) (room : ℕ) → (values_of (run_of s room)).refusal ≡ 0 → (n : ℕ) → n < length s → CutIs s n
unfolding run_of settle cut_at Shows
cut_schedule s room h n short =
    let a = accepts s room h in
    let c = cut_told s n short a.told in
    let fits : length (take n s) ≤ 65536 = omega (arith, length_front s n short, a.most) in
    record {
      number = c.number;
      stands = c.stands;
      only = λ r stands. stands_only s n r c.number stands c.stands;
      told = λ lent. rw (le-ltb 65536 (length (take n s)) fits, c.outcome);
    }

pub cut_anywhere : CutAnywhere
cut_anywhere = record { of_record = cut_record; of_schedule = cut_schedule }
