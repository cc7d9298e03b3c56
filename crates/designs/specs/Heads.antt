-- A record that is judged: by a check of its own, and by its head, where it is taken apart or refused (02, P3). Definitions only. Assumes nothing.
use Rattle.std.specs.Prelude.{ℕ, ⊤, ◌+◌, ◌≤◌, ◌≡◌, Bool, List, length, drop, Result, Ok, Err}
use Rattle.records.specs.Reading.{length_in, kind_in}
use Rattle.designs.specs.declared.Kind.{Kind}
use Rattle.designs.specs.declared.Stretch.{Stretch}
use Rattle.designs.specs.Records.{kind_number, behind, head_no}
use Rattle.designs.specs.Leaves.{fault_of, fault, head_fault}

-- the outcome of a check of the record at an offset: passed, or refused by its number
pub record RefusedAt (at number : ℕ) (x : Rattle.designs.specs.declared.Fault.Fault) : Type 0 where
  pub some : number ≡ 0 → ⊥
  pub told : fault_of x ≡ fault at number

abbrev pub JudgedAt : ℕ → ℕ → Result ⊤ Rattle.designs.specs.declared.Fault.Fault → Type 0
JudgedAt at number (Ok a) = number ≡ 0
JudgedAt at number (Err x) = RefusedAt at number x

-- the record at the front of s, at an offset: what it is, and the bytes behind its head, where one nesting less is left
pub record Apart (s : List ℕ) (at left : ℕ) (outermost : Bool) (kind : Kind) (inner : Stretch) : Type 0 where
  pub whole : head_no left outermost s ≡ 0
  pub kind_is : kind_number kind ≡ kind_in s
  pub body : inner.bytes.now ≡ behind s
  pub at_is : inner.at ≡ at
  pub nested : inner.left + 1 ≡ left
  pub short : length inner.bytes.now + 4 ≤ 65535

-- or why it is refused
pub record TurnedAway (s : List ℕ) (at left : ℕ) (outermost : Bool) (x : Rattle.designs.specs.declared.Fault.Fault) : Type 0 where
  pub some : head_no left outermost s ≡ 0 → ⊥
  pub told : fault_of x ≡ head_fault at (head_no left outermost s) (length s)

abbrev pub TakenApart : List ℕ → ℕ → ℕ → Bool → Result (Kind × Stretch) Rattle.designs.specs.declared.Fault.Fault → Type 0
TakenApart s at left outermost (Ok p) = Apart s at left outermost p.0 p.1
TakenApart s at left outermost (Err x) = TurnedAway s at left outermost x

-- and what stands behind it
pub record Past (s : List ℕ) (at left : ℕ) (rest : Stretch) : Type 0 where
  pub bytes_are : rest.bytes.now ≡ drop (length_in s) s
  pub at_is : rest.at ≡ at + length_in s
  pub left_is : rest.left ≡ left
