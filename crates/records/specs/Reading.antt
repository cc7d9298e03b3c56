-- A record read from bytes (01, "Schedule bytes"). Definitions only. Assumes nothing.
use Rattle.std.specs.Prelude.{ℕ, List, [], ◌∷◌, Bool, not, cond, ◌&&◌, ◌||◌, length, ltb, leb, eqb, Result, Ok, Err}
use Rattle.order.specs.Order.{◌⟶◌, first_of, number_of}
use Rattle.records.specs.declared.Record.{Record}
use Rattle.records.specs.declared.Record.TheVariants.{Open, Enter, Turn, Close, Number}
use Rattle.records.specs.declared.Got.{Got as GotRecord}
use Rattle.records.specs.declared.Unread.{Unread}
use Rattle.records.specs.Fields.{field}

-- the length of a record of a kind: 1 open, 2 enter, 3 turn, 4 close, 5 number; 0 where there is no such kind
unfoldable pub length_of : ℕ → ℕ
length_of k = cond (eqb k 1) 8 (cond (eqb k 2) 8 (cond (eqb k 3) 6 (cond (eqb k 4) 8 (cond (eqb k 5) 12 0))))

-- kinds 1 to 4 are known everywhere, kind 5 where reports are
unfoldable pub known : Bool → ℕ → Bool
known reports k = (leb 1 k && leb k 4) || (reports && eqb k 5)

-- ---- the head and the fields behind it, of a record at the front of the bytes s
abbrev pub length_in : List ℕ → ℕ
length_in s = field 2 s 0

abbrev pub kind_in : List ℕ → ℕ
kind_in s = field 2 s 2

unfoldable pub record_in : ℕ → List ℕ → Record
record_in k s =
    cond (eqb k 1) (Open (field 2 s 4) (field 2 s 6))
    (cond (eqb k 2) (Enter (field 2 s 4) (field 2 s 6))
    (cond (eqb k 3) (Turn (field 2 s 4))
    (cond (eqb k 4) (Close (field 4 s 4))
    (Number (field 2 s 4) (field 2 s 6) (field 4 s 8)))))

-- ---- reading: 11 a cut head (no bytes counts too); 13 kind unknown; 12 length not that of the kind; 23 a cut body
unfoldable pub read_no : Bool → List ℕ → ℕ
read_no reports s =
    first_of
    ((ltb (length s) 4 ⟶ 11)
    ∷ (not (known reports (kind_in s)) ⟶ 13)
    ∷ (not (eqb (length_in s) (length_of (kind_in s))) ⟶ 12)
    ∷ (ltb (length s) (length_of (kind_in s)) ⟶ 23)
    ∷ [])

-- How many bytes of a refused record are present, with n bytes from its first to the end: all n of a record that is cut, 11 or 23.
-- Any other refusal counts none.
unfoldable pub present_of : ℕ → ℕ → ℕ
present_of number n = cond (eqb number 11 || eqb number 23) n 0

-- what reading gives: the record and its length, or the number of the refusal and how many bytes of the record are present
pub data Read : Type 0 where
  Got : Record → ℕ → Read
  Refused : ℕ → ℕ → Read

unfoldable pub read_of : Bool → List ℕ → Read
read_of reports s =
    let number = read_no reports s in
    cond (eqb number 0) (Got (record_in (kind_in s) s) (length_of (kind_in s))) (Refused number (present_of number (length s)))

-- what the code answers, in numbers
abbrev pub read_by : Result GotRecord Unread → Read
read_by (Ok g) = Got g.record g.length
read_by (Err u) = Refused (number_of u.refusal) u.present
