-- Laws of the whole listing. In order: the most bytes of a text; the text of what was run; the answers of a call that gives a text.
-- Assumes nothing.
use Prim.Native.Nat.{ℕ, ◌/◌, ◌^◌, ◌≤◌, ◌<◌}
use mathlib.Core.Path.{◌≡◌, refl, sym, ◌∙◌, ap}
use mathlib.Core.Bool.{Bool, true, false, cond}
use mathlib.Core.List.{List}
use native.Mathlib.Omega.{arith}
use native.Mathlib.Nat.{zero-add}
use lib.ListN.{length, take, length-append}
use lib.Seq.{take-append_seam}
use lib.Dec.{eqb}
use borrow.Author.Tests.{lt-ltb, le-ltb}
use Rattle.order.specs.Order.{first_of, over, number_of}
use Rattle.outcome.specs.Outcome.{Outcome, Accepted, Refused, outcome_by}
use Rattle.outcome.specs.declared.Accepted.{Accepted as AcceptedRun}
use Rattle.outcome.specs.declared.Stopped.{Stopped}
use Rattle.outcome.specs.Schedule.{tell}
use Rattle.outcome.specs.Whole.{run_of, after_run, output_of, Ran}
use Rattle.std.proofs.Common.{Result, Ok, Err, IsOk, rules}
use Rattle.listing_text.specs.declared.TooShort.{TooShort}
use Rattle.text.specs.Text.{letters, stored, Puts}
use Rattle.text.proofs.Text.{behind_is, stored_front}
use Rattle.text.proofs.Numbers.{length_decimal}
use Rattle.listing_text.specs.Lines.{refused_line, name_of, network_line, rest_line}
use Rattle.listing_text.specs.Listing.{accepted_text, text_of, listing_of, list_no, list_of, listed_of, Listed, listed_by, Lists, Whole}
use Rattle.listing_text.proofs.Lines.{length_three, length_lines}
use Rattle.listing_text.proofs.Told.{Bytes, run_bytes}

-- ---- the most bytes
length_name : (c : ℕ) → length (name_of c) ≤ 9
unfolding name_of letters
length_name c = named (eqb c 1)
  where
    named : (b : Bool) → length (cond b (letters "bitonic\n") (letters "periodic\n")) ≤ 9
    named true = omega arith
    named false = omega arith

pub length_network : (w c : ℕ) → length (network_line w c) ≤ 38
unfolding network_line letters
length_network w c = simp length-append (omega (arith, length_decimal w, length_name c))

pub length_rest : (m : ℕ) → length (rest_line m) ≤ 26
unfolding rest_line letters
length_rest m = simp length-append (omega (arith, length_decimal m))

pub length_refused : (n r o : ℕ) → length (refused_line n r o) ≤ 71
unfolding refused_line letters
length_refused n r o = omega (arith, (length_three n r o).1)

-- 5,461 reports have 65,536 bytes of room
text_most : (o : Outcome) (reports : List ℕ) → ((w c e b : ℕ) → o ≡ Accepted w c e b → b ≤ 65536) → length (text_of o reports) ≤ 350000
unfolding text_of accepted_text
text_most (Accepted w c e b) reports few =
    let small = few w c e b refl in
    let lines = (length_lines (b / 12) reports 0).1 in
    simp length-append (omega (arith, length_network w c, length_rest e))
text_most (Refused k n at present) reports few = omega (arith, length_refused k n at)

pub listing_most : (s : List ℕ) → length (listing_of s) ≤ 350000
unfolding listing_of
listing_most s = text_most (run_of s 65536) (tell s).reports (λ w c e b h. (run_bytes s 65536 w c e b h).within)

pub listing_few : (s : List ℕ) → length (listing_of s) < 2 ^ 64
listing_few s = omega (arith, listing_most s)

-- the place behind a text that is put in front is the room that it wants
pub text_wanted : {text before after : List ℕ} {next : ℕ} → length text < 2 ^ 64 → Puts text 0 before next after → next ≡ length text
text_wanted {text} few p = p.place ∙ behind_is 0 text (rw (zero-add (length text)) few) ∙ zero-add _

-- ---- the text of what was run into a buffer of the program's own
module _ {s buffer reports : List ℕ} {r : Result AcceptedRun Stopped} (room : length buffer ≡ 65536) (ran : Ran s buffer r reports) where
  ran_as : run_of s 65536 ≡ outcome_by r
  ran_as = rw (← room) (sym ran.outcome)

  pub refused_as : {e : Stopped} → r ≡ Err e → run_of s 65536 ≡ Refused (number_of e.refusal) e.record e.offset e.present
  refused_as is = rw is at ran_as

  pub refused_puts : {e : Stopped} → r ≡ Err e → {before after : List ℕ} {next : ℕ} → Puts (refused_line (number_of e.refusal) e.record e.offset) 0 before next after
      → Puts (listing_of s) 0 before next after
  unfolding listing_of text_of
  refused_puts is p = rw (refused_as is) p

  -- accepted: the bytes that the outcome tells are the reports
  module _ {a : AcceptedRun} (is : r ≡ Ok a) where
    pub accepted_as : run_of s 65536 ≡ Accepted a.width a.construction a.entries a.bytes
    accepted_as = rw is at ran_as

    bytes : Bytes (tell s) 65536 a.bytes
    bytes = run_bytes s 65536 a.width a.construction a.entries a.bytes accepted_as

    filled : reports ≡ over (tell s).reports buffer
    unfolding output_of after_run
    filled = rw (room, accepted_as) at ran.output

    pub reports_within : a.bytes ≤ length reports
    reports_within = rw (filled, bytes.all) (simp length-append (omega arith))

    pub accepted_puts : {before after : List ℕ} {next : ℕ} → Puts (accepted_text a.width a.construction a.entries (length (take a.bytes reports)) (take a.bytes reports)) 0 before next after
        → Puts (listing_of s) 0 before next after
    unfolding listing_of text_of
    accepted_puts p =
        let alone : take a.bytes reports ≡ (tell s).reports = rw (filled, bytes.all) (take-append_seam _ _) in
        rw accepted_as (rw (alone, ← bytes.all) at p)

-- ---- a call that gives a text
module _ (text out : List ℕ) (wanted : ℕ) (is-length : wanted ≡ length text) where
  pub lists_none : length out < wanted → Lists text out (Err (record { wanted = wanted })) out
  unfolding list_no list_of listed_of first_of
  lists_none short = record { answer = rw (← is-length, lt-ltb _ _ short); buffer = rw (← is-length, lt-ltb _ _ short) }

  pub lists_all : length text < 2 ^ 64 → (after : List ℕ) → wanted ≤ length out → after ≡ stored out 0 text → Lists text out (Ok wanted) after
  unfolding list_no list_of listed_of first_of
  lists_all few after fits e =
      record {
        answer = rw (← is-length, le-ltb _ _ fits);
        buffer = rw (le-ltb _ _ (rw is-length at fits)) (e ∙ stored_front out text (rw is-length at fits) few);
      }

-- the answer in numbers tells the answer
pub listed_one : (r q : Result ℕ TooShort) → listed_by r ≡ listed_by q → r ≡ q
listed_one (Ok n) (Ok m) e = ap Ok (ap (λ (x : Listed). x.bytes) e)
listed_one (Ok n) (Err q) e = let never : ◌≡◌ {A = ℕ} 0 17 = ap (λ (x : Listed). x.refusal) e in absurd (omega arith)
listed_one (Err r) (Ok m) e = let never : ◌≡◌ {A = ℕ} 17 0 = ap (λ (x : Listed). x.refusal) e in absurd (omega arith)
listed_one (Err r) (Err q) e = ap (λ (w : ℕ). Err (record { wanted = w })) (ap (λ (x : Listed). x.wanted) e)

-- with room for the text
pub lists_ok : {text out after : List ℕ} {r : Result ℕ TooShort} → length text ≤ length out → Lists text out r after → IsOk r
unfolding list_no list_of first_of
lists_ok {r = Ok n} fits l = search rules
lists_ok {r = Err e} fits l =
    let never : ◌≡◌ {A = ℕ} 17 0 = rw (le-ltb _ _ fits) at (ap (λ (x : Listed). x.refusal) l.answer) in absurd (omega arith)

pub lists_whole : {text out after : List ℕ} {n : ℕ} → length text ≤ length out → Lists text out (Ok n) after → Whole text out n after
unfolding list_no list_of listed_of first_of
lists_whole {text} {out} fits l =
    record { size = rw (le-ltb _ _ fits) at (ap (λ (x : Listed). x.bytes) l.answer); buffer = l.buffer ∙ rw (le-ltb _ _ fits) }
