-- What the listing program writes for a schedule (01, "Listing program"), and what a call that gives a text leaves.
-- Definitions only. Assumes nothing.
use Rattle.std.specs.Prelude.{ℕ, ◌/◌, ◌≡◌, cond, List, [], ◌∷◌, ◌++◌, length, ltb, eqb, Result, Ok, Err}
use denote.Ref.{MutBor}
use Rattle.text.specs.Text.{Puts}
use Rattle.order.specs.Order.{◌⟶◌, first_of, over}
use Rattle.outcome.specs.Outcome.{Outcome, Accepted, Refused}
use Rattle.outcome.specs.Schedule.{tell}
use Rattle.outcome.specs.Whole.{run_of}
use Rattle.listing_text.specs.declared.TooShort.{TooShort}
use Rattle.listing_text.specs.Lines.{refused_line, network_line, report_lines, rest_line}

-- the network, a line for each report of 12 bytes, the entries
unfoldable pub accepted_text : ℕ → ℕ → ℕ → ℕ → List ℕ → List ℕ
accepted_text w c e b reports = network_line w c ++ (report_lines (b / 12) reports 0 ++ rest_line e)

unfoldable pub text_of : Outcome → List ℕ → List ℕ
text_of (Accepted w c e b) reports = accepted_text w c e b reports
text_of (Refused k n at present) reports = refused_line k n at

-- the reports have 65,536 bytes of room, as many as the longest schedule: each report of 12 bytes comes of an enter and a turn
unfoldable pub listing_of : List ℕ → List ℕ
listing_of s = text_of (run_of s 65536) (tell s).reports

-- ---- a call that gives a text: 17 where the room is smaller than the text; else the text stands in front, and the rest of the
-- buffer stays
unfoldable pub list_no : List ℕ → ℕ → ℕ
list_no text room = first_of ((ltb room (length text) ⟶ 17) ∷ [])

-- what the call answers, in numbers: the refusal, 0 where it was carried out, the bytes filled, and the room that the text wants
pub record Listed : Type 0 where
  pub refusal : ℕ
  pub bytes : ℕ
  pub wanted : ℕ

abbrev pub listed_by : Result ℕ TooShort → Listed
listed_by (Ok n) = record { refusal = 0; bytes = n; wanted = n }
listed_by (Err short) = record { refusal = 17; bytes = 0; wanted = short.wanted }

unfoldable pub list_of : List ℕ → ℕ → Listed
list_of text room =
    record {
      refusal = list_no text room;
      bytes = cond (eqb (list_no text room) 0) (length text) 0;
      wanted = length text;
    }

unfoldable pub listed_of : List ℕ → List ℕ → List ℕ
listed_of text out = cond (eqb (list_no text (length out)) 0) (over text out) out

-- each call puts the text in front of what it is lent
abbrev pub PutsEach : (MutBor (List ℕ) → ℕ → MutBor (List ℕ) → Type 0) → List ℕ → Type 0
PutsEach post text = (lent : MutBor (List ℕ)) (next : ℕ) (left : MutBor (List ℕ)) → post lent next left → Puts text 0 lent.now next left.now

pub record Lists (text before : List ℕ) (r : Result ℕ TooShort) (after : List ℕ) : Type 0 where
  pub answer : listed_by r ≡ list_of text (length before)
  pub buffer : after ≡ listed_of text before

-- the whole text in front of the buffer, and its length
pub record Whole (text before : List ℕ) (n : ℕ) (after : List ℕ) : Type 0 where
  pub size : n ≡ length text
  pub buffer : after ≡ over text before
