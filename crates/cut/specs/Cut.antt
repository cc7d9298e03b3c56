-- Cut anywhere: what is told of a record, and of an accepted schedule, of which only the first n bytes are there. The statement only;
-- the proof is `cut_anywhere` of proofs/Cut. Assumes nothing.
use Rattle.std.specs.Prelude.{ℕ, ◌-◌, ◌<◌, ◌≡◌, Bool, cond, List, length, take, ltb, eqb}
use Rattle.records.specs.declared.Record.{Record}
use Rattle.records.specs.Reading.{Got, Refused as Unread, read_of}
use Rattle.outcome.specs.Outcome.{Outcome, Refused}
use Rattle.outcome.specs.Whole.{run_of, values_of}
use Rattle.cut.specs.Starts.{start_of, StandsIn}

-- the number, by how many bytes of the record are there: below 4 its head is cut, else its body
unfoldable pub cut_no : ℕ → ℕ
cut_no present = cond (ltb present 4) 11 23

-- record r, cut before the byte at offset n: its number, its offset and how many bytes of it are there; 14 where there is none
unfoldable pub cut_at : List ℕ → ℕ → ℕ → Outcome
cut_at s r n =
    let o = start_of s r in
    Refused (cond (eqb n o) 14 (cut_no (n - o))) r o (n - o)

-- what is told of the first n bytes of a schedule, whatever room is lent
pub record CutIs (s : List ℕ) (n : ℕ) : Type 0 where
  -- the record that was cut: the one that the first byte lost is of
  pub number : ℕ
  pub stands : StandsIn s number n
  pub only : (r : ℕ) → StandsIn s r n → r ≡ number
  pub told : (room : ℕ) → run_of (take n s) room ≡ cut_at s number n

pub record CutAnywhere : Type 0 where
  -- a record, read among all kinds or inside a schedule
  pub of_record : (reports : Bool) (s : List ℕ) (r : Record) (len : ℕ) → read_of reports s ≡ Got r len → (n : ℕ) → n < len
      → read_of reports (take n s) ≡ Unread (cut_no n) n
  -- a schedule that is accepted, in whatever room
  pub of_schedule : (s : List ℕ) (room : ℕ) → (values_of (run_of s room)).refusal ≡ 0 → (n : ℕ) → n < length s → CutIs s n
