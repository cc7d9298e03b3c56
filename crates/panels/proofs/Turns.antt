-- A record by its head and its kind, as a reader goes by them. Assumes nothing.
use mathlib.Core.Path.{◌≡◌, refl, sym, ap, ◌∙◌}
use mathlib.Core.Bool.{Bool, false}
use mathlib.Core.List.{List}
use Prim.Native.Nat.{ℕ, ◌+◌, ◌-◌, ◌≤◌}
use mathlib.Core.Logic.{◌≢◌}
use native.Mathlib.Decide.{ℕ_discrete}
use native.Mathlib.Omega.{arith}
use lib.ListN.{length}
use Rattle.records.specs.Reading.{kind_in}
use Rattle.designs.specs.declared.Kind.{Kind}
use Rattle.designs.specs.declared.Kind.TheVariants.{Leaf}
use Rattle.designs.specs.declared.Leaf.TheVariants.{Cell, Named, Cross}
use Rattle.designs.specs.declared.Stretch.{Stretch}
use Rattle.designs.specs.Records.{leaf_number, kind_number}
use Rattle.designs.specs.Leaves.{Read, fault_of, leaf_of}
use Rattle.designs.specs.Heads.{Apart, TurnedAway}
use Rattle.designs.specs.Designs.{body_of, record_at}
use Rattle.designs.proofs.Heads.{Whole, headed, length_behind, record_refused, record_headed}
use Rattle.leaves.specs.declared.grid.Grid.{Grid}
use Rattle.leaves.specs.Told.{Judged, Refused, ReadInto}
use Rattle.leaves.proofs.Filling.{kept_same}
use Rattle.leaves.proofs.Laying.{read_refused}

module _ {s : List ℕ} {at left : ℕ} {outermost : Bool} where
  -- ---- refused by its head
  pub turned_away : {row col : ℕ} {g : Grid} (x : Rattle.designs.specs.declared.Fault.Fault) → TurnedAway s at left outermost x → ReadInto (record_at left outermost at s) row col g g (Refused (fault_of x))
  turned_away x o = rw (record_refused left outermost at s o.some, o.told) (read_refused _ (kept_same _ _ _))

  -- ---- taken apart
  module _ {kind : Kind} {inner : Stretch} (o : Apart s at left outermost kind inner) where
    whole : Whole left s
    whole = headed left outermost s o.whole

    pub shorter : length inner.bytes.now + 4 ≤ length s
    shorter = omega (arith, ap length o.body, length_behind left s whole, whole.head, whole.body)

    -- only the outermost record may be followed by bytes without end, and it stands at 0
    pub stays_low : (at ≢ 0 → at + length s ≤ 65535) → inner.at + 4 + length inner.bytes.now ≤ 65535
    stays_low h = elim (ℕ_discrete at 0) [
      | yes z ↦ omega (arith, o.at_is, o.short)
      | no n ↦ omega (arith, o.at_is, h n, shorter)
    ]

    -- of a cross the width byte is there
    pub width_there : kind ≡ Leaf Cross → 1 ≤ length inner.bytes.now
    width_there e =
        let is : kind_in s ≡ 20 = sym o.kind_is ∙ ap kind_number e in
        let five = whole.width_byte (λ z. omega arith) (λ z. omega arith) (λ z. omega arith) (λ z. omega arith) in
        omega (arith, ap length o.body, length_behind left s whole)

    is_body : record_at left outermost at s ≡ body_of (record_at inner.left false) inner.at (kind_number kind) inner.bytes.now
    is_body = let nest : inner.left ≡ left - 1 = omega (arith, o.nested) in rw (o.body, o.at_is, o.kind_is, nest) (record_headed left outermost at s o.whole)

    pub read_inner : {row col : ℕ} {g g' : Grid} {r : Judged} → ReadInto (body_of (record_at inner.left false) inner.at (kind_number kind) inner.bytes.now) row col g g' r → ReadInto (record_at left outermost at s) row col g g' r
    read_inner i = rw is_body i

pub leaf_body : (m : ℕ → List ℕ → Read) (at : ℕ) (l : Rattle.designs.specs.declared.Leaf.Leaf) (b : List ℕ) → body_of m at (leaf_number l) b ≡ leaf_of at (leaf_number l) b
unfolding body_of
leaf_body m at Cell b = refl
leaf_body m at Named b = refl
leaf_body m at Cross b = refl
