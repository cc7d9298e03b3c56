-- A design that is refused is refused by a number that is not 0. In order: records; members; the design. Assumes nothing.
use Prim.Native.Nat.{ℕ, zero, suc, ◌+◌}
use mathlib.Core.Path.{◌≡◌, refl}
use mathlib.Core.Bool.{Bool, true, false, cond}
use mathlib.Core.List.{List, []}
use lib.ListN.{length}
use lib.Dec.{eqb}
use Rattle.std.proofs.lemmas.Bool.{eqb-false}
use Rattle.order.proofs.Order.{cleared}
use Rattle.records.specs.Reading.{kind_in}
use Rattle.designs.specs.Panels.{Panel}
use Rattle.designs.specs.Members.{Joint, series, beside}
use Rattle.designs.specs.Records.{behind, head_no}
use Rattle.designs.specs.Leaves.{Fault, Read, refused, made, judged, leaf_of}
use Rattle.designs.specs.Designs.{Members, stopped, all, first, members_in, joined_at, body_of, record_at, design_of}

-- ---- records
abbrev pub Numbered : Read → Type 0
Numbered r = (x : Fault) → r ≡ refused x → x.refusal ≡ 0 → ⊥

refused_by : (x : Fault) → (x.refusal ≡ 0 → ⊥) → Numbered (refused x)
refused_by x h y e = let same : x ≡ y = cc in rw same at h

made_by : (p : Panel) → Numbered (made p)
made_by p x e z = cc

cond_by : (b : Bool) (x y : Read) → Numbered x → (b ≡ false → Numbered y) → Numbered (cond b x y)
cond_by true x y f g = f
cond_by false x y f g = g refl

judged_by : (at number : ℕ) (p : Panel) → Numbered (judged at number p)
unfolding judged
judged_by at number p = cond_by (eqb number 0) _ _ (made_by p) (λ e. refused_by _ (eqb-false number 0 e))

leaf_by : (at k : ℕ) (b : List ℕ) → Numbered (leaf_of at k b)
unfolding leaf_of
leaf_by at k b = cond_by (eqb k 18) _ _ (made_by _) (λ e. cond_by (eqb k 19) _ _ (judged_by at _ _) (λ f. judged_by at _ _))

-- ---- members
abbrev Stopped : Members → Type 0
Stopped r = (x : Fault) → r ≡ stopped x → x.refusal ≡ 0 → ⊥

all_by : (ps : List Panel) → Stopped (all ps)
all_by ps x e z = cc

first_by : (r : Read) (rest : Members) → Numbered r → Stopped rest → Stopped (first r rest)
unfolding first
first_by (refused x) rest f g y e = let same : x ≡ y = cc in rw same at (f x refl)
first_by (made p) (stopped x) f g y e = g y e
first_by (made p) (all ps) f g y e = all_by _ y e

cond_members : (b : Bool) (x y : Members) → Stopped x → Stopped y → Stopped (cond b x y)
cond_members true x y f g = f
cond_members false x y f g = g

joint_by : (j : Joint) (at : ℕ) (r : Members) → Stopped r → Numbered (joined_at j at r)
unfolding joined_at
joint_by j at (stopped x) f = refused_by x (f x refl)
joint_by j at (all ps) f = judged_by at _ _

module _ (m : ℕ → List ℕ → Read) (f : (at : ℕ) (s : List ℕ) → Numbered (m at s)) where
  members_by : (n at : ℕ) (s : List ℕ) → Stopped (members_in m n at s)
  unfolding members_in
  members_by zero at s = all_by []
  members_by (suc n) at s = cond_members (eqb (length s) 0) _ _ (all_by []) (first_by (m at s) _ (f at s) (members_by n _ _))

  body_by : (at k : ℕ) (b : List ℕ) → Numbered (body_of m at k b)
  unfolding body_of
  body_by at k b =
      cond_by (eqb k 16) _ _ (joint_by series at _ (members_by (length b) (at + 4) b))
      (λ e. cond_by (eqb k 17) _ _ (joint_by beside at _ (members_by (length b) (at + 4) b)) (λ g. leaf_by at k b))

-- ---- the design: where no nesting is left, the record is refused
deepest : (outermost : Bool) (s : List ℕ) → head_no zero outermost s ≡ 0 → ⊥
unfolding head_no
deepest outermost s h =
    let a = cleared _ 10 _ h in
    let b = cleared _ 12 _ a.then in
    let c = cleared _ 11 _ b.then in
    let d = cleared _ 22 _ c.then in
    let e = cleared _ 11 _ d.then in
    let f = cleared _ 11 _ e.then in
    let g = cleared _ 22 _ f.then in
    let last = (cleared _ 17 _ g.then).fails in
    cc

record_by : (left : ℕ) (outermost : Bool) (at : ℕ) (s : List ℕ) → Numbered (record_at left outermost at s)
unfolding record_at
record_by zero outermost at s = refused_by _ (deepest outermost s)
record_by (suc left) outermost at s =
    cond_by (eqb (head_no (suc left) outermost s) 0) _ _ (body_by (record_at left false) (record_by left false) at (kind_in s) (behind s))
    (λ e. refused_by _ (eqb-false _ 0 e))

pub design_numbered : (s : List ℕ) → Numbered (design_of s)
unfolding design_of
design_numbered s = record_by 8 true 0 s
