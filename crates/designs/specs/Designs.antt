-- Members, and what the bytes of a design mean (02, P3). Definitions only. Assumes nothing.
use Rattle.std.specs.Prelude.{ℕ, zero, suc, ◌+◌, Bool, false, true, not, cond, List, [], ◌∷◌, eqb, length, drop}
use Rattle.order.specs.Order.{◌⟶◌, first_of}
use Rattle.feed_sheet.specs.Limits.{in_limits}
use Rattle.records.specs.Reading.{length_in, kind_in}
use Rattle.designs.specs.Panels.{Panel}
use Rattle.designs.specs.Members.{Joint, series, beside, joined, all_equal}
use Rattle.designs.specs.Records.{behind, head_no}
use Rattle.designs.specs.Leaves.{Fault, Read, refused, made, head_fault, judged, leaf_of}

-- ---- members from the left: the first refusal, or all of them
pub data Members : Type 0 where
  stopped : Fault → Members
  all : List Panel → Members

unfoldable pub first : Read → Members → Members
first (refused x) rest = stopped x
first (made p) (stopped x) = stopped x
first (made p) (all ps) = all (p ∷ ps)

-- those in s, the first of which stands at an offset, each where the one before it ends; m reads one, and no more than n are there
unfoldable pub members_in : (ℕ → List ℕ → Read) → ℕ → ℕ → List ℕ → Members
members_in m zero at s = all []
members_in m (suc n) at s =
    cond (eqb (length s) 0) (all []) (first (m at s) (members_in m n (at + length_in s) (drop (length_in s) s)))

-- 20 unequal width or depth; 22 width or depth outside the limit
unfoldable pub size_no : Bool → ℕ → ℕ → ℕ
size_no equal w d = first_of ((not equal ⟶ 20) ∷ (not (in_limits w d) ⟶ 22) ∷ [])

unfoldable pub joined_at : Joint → ℕ → Members → Read
joined_at j at (stopped x) = refused x
joined_at j at (all ps) = judged at (size_no (all_equal j ps) (joined j ps).width (joined j ps).depth) (joined j ps)

-- ---- a record of kind k with the bytes b behind its head; m reads a member
unfoldable pub body_of : (ℕ → List ℕ → Read) → ℕ → ℕ → List ℕ → Read
body_of m at k b =
    cond (eqb k 16) (joined_at series at (members_in m (length b) (at + 4) b))
    (cond (eqb k 17) (joined_at beside at (members_in m (length b) (at + 4) b))
    (leaf_of at k b))

-- the record at the front of s, which stands at an offset, where so much nesting is left; a member's end is its parent's
unfoldable pub record_at : ℕ → Bool → ℕ → List ℕ → Read
record_at zero outermost at s = refused (head_fault at (head_no zero outermost s) (length s))
record_at (suc left) outermost at s =
    cond (eqb (head_no (suc left) outermost s) 0) (body_of (record_at left false) at (kind_in s) (behind s))
    (refused (head_fault at (head_no (suc left) outermost s) (length s)))

-- a nesting of eight, in which the outermost counts as one
unfoldable pub design_of : List ℕ → Read
design_of s = record_at 8 true 0 s
