-- An answer is what it tells in the document's numbers: of each way to tell one, two answers that tell the same are equal. In order: a
-- check; a call that fills a buffer; a call by value, a turn, a poll; reading a record; running a schedule; the highest number. That of a
-- design stands in panels, that of a text in listing_text. Assumes nothing.
use Prim.Native.Nat.{ℕ}
use mathlib.Core.Path.{◌≡◌, refl, sym, ap}
use Rattle.std.specs.Prelude.{Result, Ok, Err, Option, Some, None, ⊤}
use Rattle.order.specs.declared.Refusal.{Refusal}
use Rattle.order.specs.declared.After.{After}
use Rattle.order.specs.Order.{refused_by, filled_by}
use Rattle.order.proofs.Numbers.{number_some, number_tells, number_told}
use Rattle.moves.specs.declared.Turn.{Turn}
use Rattle.moves.specs.declared.Turn.TheVariants.{Passed, Dealt}
use Rattle.moves.specs.Answer.{answered}
use Rattle.records.specs.declared.Got.{Got}
use Rattle.records.specs.declared.Unread.{Unread}
use Rattle.records.specs.Reading.{read_by}
use Rattle.outcome.specs.declared.Accepted.{Accepted}
use Rattle.outcome.specs.declared.Stopped.{Stopped}
use Rattle.outcome.specs.Outcome.{outcome_by}
use Rattle.dials.specs.Highest.{top_by}
use Rattle.small.specs.Small.{yielded_by}

pub check_told : {r s : Result ⊤ Refusal} → refused_by r ≡ refused_by s → r ≡ s
check_told {r} {s} h = number_told r s (λ a b. refl) h

pub filled_told : (r s : Result ℕ Refusal) → filled_by r ≡ filled_by s → r ≡ s
filled_told (Ok m) (Ok n) h = rw (ap (λ x. x.filled) h)
filled_told (Ok m) (Err f) h = absurd (number_some f (sym (ap (λ x. x.refusal) h)))
filled_told (Err e) (Ok n) h = absurd (number_some e (ap (λ x. x.refusal) h))
filled_told (Err e) (Err f) h = rw (number_tells e f (ap (λ x. x.refusal) h))

-- ---- by value
after_told : {S A : Type 0} {s t : S} {x y : Result A Refusal} → x ≡ y → s ≡ t
    → ◌≡◌ {A = After S A} (record { state = s; answer = x }) (record { state = t; answer = y })
after_told e f = rw (e, f)

pub entered_told : {S : Type 0} {a b : After S ⊤} → refused_by a.answer ≡ refused_by b.answer → a.state ≡ b.state → a ≡ b
entered_told e f = after_told (check_told e) f

answer_told : (r s : Result Turn Refusal) → answered r ≡ answered s → r ≡ s
answer_told (Ok (Passed l v L c s)) (Ok (Passed l' v' L' c' s')) h = cc
answer_told (Ok (Passed l v L c s)) (Ok (Dealt i' n')) h = cc
answer_told (Ok (Passed l v L c s)) (Err f) h = cc
answer_told (Ok (Dealt i n)) (Ok (Passed l' v' L' c' s')) h = cc
answer_told (Ok (Dealt i n)) (Ok (Dealt i' n')) h = cc
answer_told (Ok (Dealt i n)) (Err f) h = cc
answer_told (Err e) (Ok (Passed l' v' L' c' s')) h = cc
answer_told (Err e) (Ok (Dealt i' n')) h = cc
answer_told (Err e) (Err f) h = let same : e ≡ f = number_tells e f cc in cc

pub turned_told : {S : Type 0} {a b : After S Turn} → answered a.answer ≡ answered b.answer → a.state ≡ b.state → a ≡ b
turned_told {S} {a} {b} e f = after_told (answer_told a.answer b.answer e) f

yield_told : (r s : Result ℕ Refusal) → refused_by r ≡ refused_by s → yielded_by r ≡ yielded_by s → r ≡ s
yield_told (Ok m) (Ok n) h y = rw y
yield_told (Ok m) (Err f) h y = absurd (number_some f (sym h))
yield_told (Err e) (Ok n) h y = absurd (number_some e h)
yield_told (Err e) (Err f) h y = rw (number_tells e f h)

pub polled_told : {S : Type 0} {a b : After S ℕ} → refused_by a.answer ≡ refused_by b.answer → yielded_by a.answer ≡ yielded_by b.answer
    → a.state ≡ b.state → a ≡ b
polled_told {S} {a} {b} e y f = after_told (yield_told a.answer b.answer e y) f

-- ---- reading
pub read_told : (r s : Result Got Unread) → read_by r ≡ read_by s → r ≡ s
read_told (Ok a) (Ok b) h =
    let record_is : a.record ≡ b.record = cc in
    let length_is : a.length ≡ b.length = cc in
    rw (record_is, length_is)
read_told (Ok a) (Err v) h = cc
read_told (Err u) (Ok b) h = cc
read_told (Err u) (Err v) h =
    let refusal_is : u.refusal ≡ v.refusal = number_tells u.refusal v.refusal cc in
    let present_is : u.present ≡ v.present = cc in
    rw (refusal_is, present_is)

pub outcome_told : (r s : Result Accepted Stopped) → outcome_by r ≡ outcome_by s → r ≡ s
outcome_told (Ok a) (Ok b) h =
    let width_is : a.width ≡ b.width = cc in
    let construction_is : a.construction ≡ b.construction = cc in
    let entries_is : a.entries ≡ b.entries = cc in
    let bytes_is : a.bytes ≡ b.bytes = cc in
    rw (width_is, construction_is, entries_is, bytes_is)
outcome_told (Ok a) (Err y) h = cc
outcome_told (Err x) (Ok b) h = cc
outcome_told (Err x) (Err y) h =
    let refusal_is : x.refusal ≡ y.refusal = number_tells x.refusal y.refusal cc in
    let record_is : x.«record» ≡ y.«record» = cc in
    let offset_is : x.offset ≡ y.offset = cc in
    let present_is : x.present ≡ y.present = cc in
    rw (refusal_is, record_is, offset_is, present_is)

pub top_told : (r s : Result (Option ℕ) Refusal) → top_by r ≡ top_by s → r ≡ s
top_told (Ok (Some m)) (Ok (Some n)) h = cc
top_told (Ok (Some m)) (Ok None) h = cc
top_told (Ok (Some m)) (Err f) h = cc
top_told (Ok None) (Ok (Some n)) h = cc
top_told (Ok None) (Ok None) h = refl
top_told (Ok None) (Err f) h = cc
top_told (Err e) (Ok (Some n)) h = cc
top_told (Err e) (Ok None) h = cc
top_told (Err e) (Err f) h = let same : e ≡ f = number_tells e f cc in cc
