-- What a record of a design comes to, and those without members (02, P3). Definitions only. Assumes nothing.
use Rattle.std.specs.Prelude.{ℕ, not, cond, List, [], ◌∷◌, eqb, length, drop}
use Rattle.order.specs.Order.{◌⟶◌, number_of, first_of}
use Rattle.network.specs.Widths.{open_no}
use Rattle.feed_sheet.specs.Limits.{in_limits, permutation}
use Rattle.records.specs.Fields.{field}
use Rattle.records.specs.Reading.{present_of}
use Rattle.designs.specs.Panels.{Panel, cell, named, cross}

-- why a record is refused: the number, the offset of the record, and how many bytes of it are present where it is cut, else 0
pub record Fault : Type 0 where
  pub refusal : ℕ
  pub offset : ℕ
  pub present : ℕ

abbrev pub fault_of : Rattle.designs.specs.declared.Fault.Fault → Fault
fault_of x = record { refusal = number_of x.refusal; offset = x.offset; present = x.present }

pub data Read : Type 0 where
  refused : Fault → Read
  made : Panel → Read

-- a record at an offset is refused, and it is not cut
abbrev pub fault : ℕ → ℕ → Fault
fault at number = record { refusal = number; offset = at; present = 0 }

-- the same by its head, with n bytes from its first to the end of its parent, or of the design: of a cut record all n are present
abbrev pub head_fault : ℕ → ℕ → ℕ → Fault
head_fault at number n = record { refusal = number; offset = at; present = present_of number n }

-- the record at an offset is refused by its own number, or makes a panel
unfoldable pub judged : ℕ → ℕ → Panel → Read
judged at number p = cond (eqb number 0) (made p) (refused (fault at number))

-- 21 not a permutation; 22 width outside the limit
unfoldable pub cross_no : List ℕ → ℕ
cross_no places = first_of ((not (permutation places) ⟶ 21) ∷ (not (in_limits (length places) 0) ⟶ 22) ∷ [])

-- a record without members, of kind k, with the bytes b behind its head; a named network that is allowed is within the limits
unfoldable pub leaf_of : ℕ → ℕ → List ℕ → Read
leaf_of at k b =
    cond (eqb k 18) (made cell)
    (cond (eqb k 19) (judged at (open_no (field 2 b 0) (field 2 b 2)) (named (field 2 b 0) (field 2 b 2)))
    (judged at (cross_no (drop 1 b)) (cross (drop 1 b))))
