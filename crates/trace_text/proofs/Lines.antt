-- Laws of the turns' lines. In order: a record and the lines behind it; a turn's line as it is told; their most bytes; the loop that puts them; what each kind of
-- record gives there. Assumes nothing.
use Prim.Native.Nat.{ℕ, zero, suc, ◌+◌, ◌*◌, ◌≤◌}
use mathlib.Core.Path.{◌≡◌, refl, sym, ◌∙◌}
use mathlib.Core.List.{List, [], ◌∷◌, ◌++◌, append_assoc}
use denote.Ref.{Bor}
use Rattle.std.proofs.Common.{◌⊎◌, inl, inr}
use native.Mathlib.Omega.{arith}
use lib.ListN.{length, length-append}
use Rattle.moves.specs.Answer.{Answer, Passed, Dealt, Refused}
use Rattle.run.specs.declared.Run.{Run}
use Rattle.run.specs.Run.{Opened, Entered, Turned, fresh, open_of, enter_of, turn_of}
use Rattle.records.specs.declared.Record.{Record}
use Rattle.records.specs.declared.Record.TheVariants.{Open, Enter, Turn as TurnRecord, Close, Number}
use Rattle.records.specs.Reading.{Read, Got, Refused as Unread}
use Rattle.outcome.specs.Course.{course, at_start, Step}
use Rattle.outcome.specs.Step.{served_of, step_of}
use Rattle.outcome.specs.Schedule.{record_at}
use Rattle.outcome.proofs.Told.{At, place, record_none}
use Rattle.text.specs.Text.{letters, each, Puts}
use Rattle.text.proofs.Text.{Leads, leads_all, leads_none, leads_on, puts_none}
use Rattle.text.proofs.Numbers.{length_decimal}
use Rattle.trace_text.specs.Lines.{named, line, passed_line, dealt_line, turn_line, line_of, on_record, lines_from, turn_lines}

-- ---- a record and the lines behind it
-- a record that is read lies within the bytes, whatever the run
at_record : {s : List ℕ} {at len : ℕ} {item : Record} → record_at s at ≡ Got item len → At s at len
at_record {item = item} e =
    let x = course 0 (fresh 0 0) in
    place (record { running = λ (h : x.phase ≡ 2). omega arith; item = item; read = e; did = the_same (step_of x item) })
  where
    the_same : (y : Step) → y ≡ y
    the_same y = refl

module _ (s : List ℕ) (x : Run) (at : ℕ) where
  lines_more : (more : ℕ) (r : Record) (len : ℕ) → record_at s at ≡ Got r len
      → lines_from (suc more) s x at ≡ line_of x r ++ lines_from more s (served_of x r).course.run (at + len)
  unfolding lines_from on_record
  lines_more more r len e = rw e

  lines_end : (more k present : ℕ) → record_at s at ≡ Unread k present → lines_from more s x at ≡ []
  unfolding lines_from on_record
  lines_end zero k present e = refl
  lines_end (suc more) k present e = rw e

-- ---- a turn's line, as it is told: the words and their numbers
module _ {before after : List ℕ} {at next : ℕ} (t : ℕ) where
  pub puts_passed : (a b c d : Bor (List ℕ)) {L' cell' s' v' L cell s v : ℕ} → Puts (line t ((a, L') ∷ (b, cell') ∷ (c, s') ∷ (d, v') ∷ [])) at before next after
      → a.now ≡ letters " layer " → b.now ≡ letters " cell " → c.now ≡ letters " outlet " → d.now ≡ letters " wire " → L' ≡ L → cell' ≡ cell → s' ≡ s → v' ≡ v
      → Puts (passed_line t L cell s v) at before next after
  unfolding line passed_line each
  puts_passed a b c d p e f g h layer cell outlet wire = simp (append_assoc, e, f, g, h, layer, cell, outlet, wire) at p

  pub puts_dealt : (a b : Bor (List ℕ)) {i' n' i n : ℕ} → Puts (line t ((a, i') ∷ (b, n') ∷ [])) at before next after
      → a.now ≡ letters " exit " → b.now ≡ letters " number " → i' ≡ i → n' ≡ n → Puts (dealt_line t i n) at before next after
  unfolding line dealt_line each
  puts_dealt a b p e f exit number = simp (append_assoc, e, f, exit, number) at p

-- ---- the most bytes
length_passed : (t L c s v : ℕ) → length (passed_line t L c s v) ≤ 128
unfolding passed_line named letters
length_passed t L c s v =
    simp length-append (omega (arith, length_decimal t, length_decimal L, length_decimal c, length_decimal s, length_decimal v))

length_dealt : (t i n : ℕ) → length (dealt_line t i n) ≤ 128
unfolding dealt_line named letters
length_dealt t i n = simp length-append (omega (arith, length_decimal t, length_decimal i, length_decimal n))

length_turn : (t : ℕ) (a : Answer) → length (turn_line t a) ≤ 128
unfolding turn_line
length_turn t (Passed l v L c s) = length_passed _ _ _ _ _
length_turn t (Dealt i n) = length_dealt _ _ _
length_turn t (Refused k) = omega arith

length_line : (x : Run) (r : Record) → length (line_of x r) ≤ 128
unfolding line_of
length_line x (Open w c) = omega arith
length_line x (Enter t v) = omega arith
length_line x (TurnRecord t) = length_turn _ _
length_line x (Close e) = omega arith
length_line x (Number t v n) = omega arith

-- a record has 6 bytes or more, and 22 for each of them are more than a line has
length_read : (s : List ℕ) (x : Run) (at : ℕ) (rest : Record → ℕ → List ℕ) → ((r : Record) (len : ℕ) → at + len ≤ length s → length (rest r len) + 22 * (at + len) ≤ 22 * length s)
    → at ≤ length s → (q : Read) → record_at s at ≡ q → length (on_record q (λ r len. line_of x r ++ rest r len)) + 22 * at ≤ 22 * length s
unfolding on_record
length_read s x at rest few h (Got r len) e =
    let a = at_record e in
    rw length-append (omega (arith, length_line x r, a.onward, few r len a.within))
length_read s x at rest few h (Unread k present) e = omega arith

pub length_lines : (more : ℕ) (s : List ℕ) (x : Run) (at : ℕ) → at ≤ length s → length (lines_from more s x at) + 22 * at ≤ 22 * length s
unfolding lines_from
length_lines zero s x at h = omega arith
length_lines (suc more) s x at h =
    length_read s x at _ (λ r len within. length_lines more s _ (at + len) within) h (record_at s at) refl

-- ---- the loop: the records left, from a place on, give the lines still to come
pub record Going (s : List ℕ) (at : ℕ) (out₀ : List ℕ) (x : Run) (next from : ℕ) (out : List ℕ) : Type 0 where
  pub more : ℕ
  pub enough : length s ≤ from + more
  pub within : from ≤ length s
  pub leads : Leads (lines_from more s x from) (turn_lines s) at out₀ next out

pub begins : (s : List ℕ) (at : ℕ) (out : List ℕ) (x : Run) → x ≡ at_start.run → Going s at out x at 0 out
unfolding turn_lines
begins s at out x e =
    record { more = length s; enough = omega arith; within = omega arith; leads = rw e (leads_all (turn_lines s) at out) }

module _ {s out₀ out : List ℕ} {x : Run} {at next from : ℕ} (g : Going s at out₀ x next from out) where
  pub ends_unread : {q : Read} {k present : ℕ} → q ≡ record_at s from → q ≡ Unread k present → Puts (turn_lines s) at out₀ next out
  ends_unread {k = k} {present = present} e f = leads_none (rw (lines_end s x from g.more k present (sym e ∙ f)) at g.leads)

  pub ends_whole : length s ≤ from → Puts (turn_lines s) at out₀ next out
  ends_whole h = ends_unread (record_none s from h) refl

-- ---- a record that is read at the loop's head
pub record Spot : Type 0 where
  pub s : List ℕ
  pub at : ℕ
  pub out₀ : List ℕ
  pub x : Run
  pub next : ℕ
  pub from : ℕ
  pub out : List ℕ
  pub item : Record
  pub len : ℕ
  pub going : Going s at out₀ x next from out
  pub read : record_at s from ≡ Got item len

-- what it gives: its line, and the run that it leaves
pub record Gives (c : Spot) (y : Run) (next : ℕ) (out : List ℕ) : Type 0 where
  pub line : Puts (line_of c.x c.item) c.next c.out next out
  pub leaves : y ≡ (served_of c.x c.item).course.run

module _ (c : Spot) where
  pub inside : At c.s c.from c.len
  inside = at_record c.read

  pub goes_on : {y : Run} {next : ℕ} {out : List ℕ} → Gives c y next out → Going c.s c.at c.out₀ y next (c.from + c.len) out
  goes_on {y} {next} {out} gives = on c.going.more c.going.enough c.going.leads
    where
      on : (more : ℕ) → length c.s ≤ c.from + more → Leads (lines_from more c.s c.x c.from) (turn_lines c.s) c.at c.out₀ c.next c.out
          → Going c.s c.at c.out₀ y next (c.from + c.len) out
      on zero enough l = absurd (omega (arith, inside.more))
      on (suc more) enough l =
          record {
            more = more;
            enough = omega (arith, inside.onward);
            within = inside.within;
            leads = rw gives.leaves (leads_on _ (rw (lines_more c.s c.x c.from more c.item c.len c.read) at l) gives.line);
          }

  silent : {y : Run} {r : Record} → c.item ≡ r → line_of c.x r ≡ [] → y ≡ (served_of c.x r).course.run → Gives c y c.next c.out
  silent e none f = record { line = rw (e, none) (puts_none c.out c.next); leaves = rw e f }

  pub gives_open : {w k : ℕ} {y : Opened} → c.item ≡ Open w k → y ≡ open_of w k → Gives c y.run c.next c.out
  unfolding line_of served_of
  gives_open e f = silent e refl (rw f)

  pub gives_enter : {t v : ℕ} {y : Entered} → c.item ≡ Enter t v → y ≡ enter_of c.x t v → Gives c y.run c.next c.out
  unfolding line_of served_of
  gives_enter e f = silent e refl (rw f)

  pub gives_silent : ((m : ℕ) × (c.item ≡ Close m)) ⊎ ((t v n : ℕ) × (c.item ≡ Number t v n)) → Gives c c.x c.next c.out
  unfolding line_of served_of
  gives_silent (inl (m, e)) = silent e refl refl
  gives_silent (inr (t, v, n, e)) = silent e refl refl

  pub gives_turn : {t next : ℕ} {out : List ℕ} {y : Turned} → c.item ≡ TurnRecord t → y ≡ turn_of c.x t
      → Puts (turn_line t y.answer) c.next c.out next out → Gives c y.run next out
  unfolding line_of served_of
  gives_turn e f p = record { line = rw (e, ← f) p; leaves = rw (e, f) }
