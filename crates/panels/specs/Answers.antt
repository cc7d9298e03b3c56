-- What reading a design answers, and the lent sheet after it (02, P3). Definitions only. Assumes nothing.
use Rattle.std.specs.Prelude.{ℕ, ◌+◌, ◌*◌, ◌≡◌, cond, List, [], ◌∷◌, length, ltb, eqb, Result, Ok, Err}
use Rattle.order.specs.Order.{◌⟶◌, first_of, over}
use Rattle.designs.specs.Panels.{feed_length, feed_sheet}
use Rattle.designs.specs.Leaves.{Fault, fault_of, Read, refused, made, fault}
use Rattle.designs.specs.Designs.{design_of}
use Rattle.panels.specs.declared.Panel.{Panel}

-- the refusal number, 0 where it was carried out, the offset of the record refused, and how many bytes of it are present where it is
-- cut; the width and the depth of the panel; and how many bytes of the feed sheet were filled
pub record Answer : Type 0 where
  pub refusal : ℕ
  pub offset : ℕ
  pub present : ℕ
  pub width : ℕ
  pub depth : ℕ
  pub filled : ℕ

-- a refusal gives its number, the offset of the record and how many bytes of it are present; other results are 0
abbrev pub refusal_of : Fault → Answer
refusal_of x = record { refusal = x.refusal; offset = x.offset; present = x.present; width = 0; depth = 0; filled = 0 }

abbrev pub answer_by : Result Panel Rattle.designs.specs.declared.Fault.Fault → Answer
answer_by (Ok p) = record { refusal = 0; offset = 0; present = 0; width = p.width; depth = p.depth; filled = p.filled }
answer_by (Err x) = refusal_of (fault_of x)

-- 3 sheet shorter than the feed sheet, last of all; it is no record's
unfoldable pub room_no : ℕ → ℕ → ℕ → ℕ
room_no w d room = first_of ((ltb room ((d + 1) * w) ⟶ 3) ∷ [])

unfoldable pub answer_of : Read → ℕ → Answer
answer_of (refused x) room = refusal_of x
answer_of (made p) room =
    cond (eqb (room_no p.width p.depth room) 0)
    (record { refusal = 0; offset = 0; present = 0; width = p.width; depth = p.depth; filled = feed_length p })
    (refusal_of (fault 0 (room_no p.width p.depth room)))

unfoldable pub sheet_after : Read → List ℕ → List ℕ
sheet_after (refused x) before = before
sheet_after (made p) before =
    cond (eqb (room_no p.width p.depth (length before)) 0) (over (feed_sheet p) before) before

-- what is answered, and the lent sheet after it: further bytes stay, and a refusal changes nothing
pub record DesignRead (design before after : List ℕ) (r : Answer) : Type 0 where
  pub answer : r ≡ answer_of (design_of design) (length before)
  pub sheet : after ≡ sheet_after (design_of design) before
