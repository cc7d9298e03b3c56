-- Every panel that is read is fair: width 1 to 64, depth at most 36, an even width where there are cells, and each row a
-- permutation. And the feed sheet of a named network is its sheet and a row in order. Assumes nothing.
use mathlib.Core.Path.{◌≡◌, refl}
use mathlib.Core.Bool.{Bool, true, false, not, cond}
use mathlib.Core.List.{List, [], ◌∷◌, ◌++◌}
use Prim.Native.Nat.{ℕ, zero, suc, ◌+◌, ◌<◌}
use native.Mathlib.Omega.{arith}
use native.Mathlib.Numerals.{add-one}
use lib.Dec.{ltb, eqb}
use lib.ListN.{length, drop}
use borrow.Author.Tests.{lt-ltb, le-ltb, ltb-true, eqb-true, not-false}
use Rattle.order.proofs.Order.{cleared}
use Rattle.network.specs.Widths.{open_no, depth_of}
use Rattle.network.specs.Rows.{tabulate, rows, place_of, sheet_of}
use Rattle.network.proofs.Arrays.{tabulate_ext}
use Rattle.network.proofs.Widths.{allowed, width_some, width_small, depth_of_small, layered}
use Rattle.network.proofs.Rows.{place_of_once}
use Rattle.network.proofs.Once.{Once}
use Rattle.records.specs.Fields.{field}
use Rattle.records.specs.Reading.{kind_in}
use Rattle.designs.specs.Panels.{Panel, cell, named, cross, feed_sheet}
use Rattle.designs.specs.Members.{Joint, series, beside, joined, all_equal}
use Rattle.feed_sheet.specs.Limits.{in_limits, permutation}
use Rattle.designs.specs.Records.{behind, head_no}
use Rattle.designs.specs.Leaves.{Fault, Read, refused, made, judged, cross_no, leaf_of}
use Rattle.designs.specs.Designs.{Members, stopped, all, first, members_in, size_no, joined_at, body_of, record_at, design_of}
use Rattle.designs.specs.PanelsRead.{PanelsRead}
use Rattle.feed_sheet.proofs.Permutations.{permutation_once, once_permutation}
use Rattle.feed_sheet.proofs.Sheet.{Within, within_limits}
use Rattle.designs.proofs.Rows.{Rowed, once_in_order}
use Rattle.designs.proofs.Joints.{Lawful, lawful_series, lawful_beside, Every, none, more, rowed_joined}

pub record Fair (p : Panel) : Type 0 where
  pub within : Within p.width p.depth
  pub rowed : Rowed p

-- ---- what each refusal rules out
pub record CrossFair (places : List ℕ) : Type 0 where
  pub whole : permutation places ≡ true
  pub within : Within (length places) 0

pub cross_fair : (places : List ℕ) → cross_no places ≡ 0 → CrossFair places
unfolding cross_no
cross_fair places h =
    let a = cleared (not (permutation places)) 20 _ h in
    let b = cleared (not (in_limits (length places) 0)) 21 _ a.then in
    record { whole = not-false (permutation places) a.fails; within = within_limits (length places) 0 (not-false (in_limits (length places) 0) b.fails) }

pub record SizeFair (equal : Bool) (w d : ℕ) : Type 0 where
  pub equal_all : equal ≡ true
  pub within : Within w d

pub size_fair : (equal : Bool) (w d : ℕ) → size_no equal w d ≡ 0 → SizeFair equal w d
unfolding size_no
size_fair equal w d h =
    let a = cleared (not equal) 19 _ h in
    let b = cleared (not (in_limits w d)) 21 _ a.then in
    record { equal_all = not-false equal a.fails; within = within_limits w d (not-false (in_limits w d) b.fails) }

-- ---- records
abbrev pub AllFair : Read → Type 0
AllFair r = (p : Panel) → r ≡ made p → Fair p

abbrev MembersFair : Members → Type 0
MembersFair r = (ps : List Panel) → r ≡ all ps → Every Fair ps

refused_fair : (x : Fault) → AllFair (refused x)
refused_fair x p e = let never : ◌≡◌ {A = ℕ} 0 1 = cc in absurd (omega arith)

made_fair : (p : Panel) → Fair p → AllFair (made p)
made_fair p f q e = let same : p ≡ q = cc in rw same at f

cond_fair : (b : Bool) (x y : Read) → (b ≡ true → AllFair x) → AllFair y → AllFair (cond b x y)
cond_fair true x y f g = f refl
cond_fair false x y f g = g

judged_fair : (at number : ℕ) (p : Panel) → (number ≡ 0 → Fair p) → AllFair (judged at number p)
unfolding judged
judged_fair at number p f = cond_fair (eqb number 0) (made p) _ (λ e. made_fair p (f (eqb-true number 0 e))) (refused_fair _)

cell_fair : Fair cell
cell_fair = record {
  within = record { some = omega arith; wide = omega arith; deep = omega arith };
  rowed = record { once = λ L l. once_in_order 2; even = λ h. refl };
}

network_row : (b : Bool) (w c L : ℕ) → ltb L (depth_of w c) ≡ b → Once w (λ v. cond b (place_of w c L v) v)
network_row true w c L e = place_of_once w c L (ltb-true L (depth_of w c) e)
network_row false w c L e = once_in_order w

named_fair : (w c : ℕ) → open_no w c ≡ 0 → Fair (named w c)
named_fair w c h =
    let a = allowed w c h in
    record {
      within = record { some = width_some w a.width; wide = width_small w a.width; deep = depth_of_small w c };
      rowed = record {
        once = λ L l. network_row (ltb L (depth_of w c)) w c L refl;
        even = λ l. omega (arith, (layered w c 0 (omega arith)).even);
      };
    }

crossed_fair : (places : List ℕ) → cross_no places ≡ 0 → Fair (cross places)
crossed_fair places h =
    let a = cross_fair places h in
    record {
      within = a.within;
      rowed = record { once = λ L l. permutation_once places a.whole; even = λ l. absurd (omega arith) };
    }

leaf_fair : (at k : ℕ) (b : List ℕ) → AllFair (leaf_of at k b)
unfolding leaf_of
leaf_fair at k b =
    cond_fair (eqb k 18) _ _ (λ e. made_fair cell cell_fair)
    (cond_fair (eqb k 19) _ _ (λ e. judged_fair at _ _ (named_fair (field 2 b 0) (field 2 b 2)))
    (judged_fair at _ _ (crossed_fair (drop 1 b))))

pub every_rowed : {ps : List Panel} → Every Fair ps → Every Rowed ps
every_rowed none = none
every_rowed (more f fs) = more f.rowed (every_rowed fs)

pub joined_fair : (j : Joint) → Lawful j → (ps : List Panel) → Every Fair ps → size_no (all_equal j ps) (joined j ps).width (joined j ps).depth ≡ 0 → Fair (joined j ps)
joined_fair j law ps fs h =
    let a = size_fair (all_equal j ps) (joined j ps).width (joined j ps).depth h in
    record { within = a.within; rowed = rowed_joined j law ps a.equal_all (every_rowed fs) }

joint_fair : (j : Joint) → Lawful j → (at : ℕ) (r : Members) → MembersFair r → AllFair (joined_at j at r)
unfolding joined_at
joint_fair j law at (stopped x) f = refused_fair x
joint_fair j law at (all ps) f = judged_fair at _ (joined j ps) (joined_fair j law ps (f ps refl))

-- ---- members
none_fair : MembersFair (all [])
none_fair ps e = let none_yet : Every Fair [] = none in let same : [] ≡ ps = cc in rw same at none_yet

first_fair : (r : Read) (rest : Members) → AllFair r → MembersFair rest → MembersFair (first r rest)
unfolding first
first_fair (refused x) rest f g ps e = let never : ◌≡◌ {A = ℕ} 0 1 = cc in absurd (omega arith)
first_fair (made p) (stopped x) f g ps e = let never : ◌≡◌ {A = ℕ} 0 1 = cc in absurd (omega arith)
first_fair (made p) (all qs) f g ps e = let same : p ∷ qs ≡ ps = cc in rw same at (more (f p refl) (g qs refl))

cond_members : (b : Bool) (x y : Members) → MembersFair x → MembersFair y → MembersFair (cond b x y)
cond_members true x y f g = f
cond_members false x y f g = g

module _ (m : ℕ → List ℕ → Read) (f : (at : ℕ) (s : List ℕ) → AllFair (m at s)) where
  members_fair : (n at : ℕ) (s : List ℕ) → MembersFair (members_in m n at s)
  unfolding members_in
  members_fair zero at s = none_fair
  members_fair (suc n) at s = cond_members (eqb (length s) 0) _ _ none_fair (first_fair (m at s) _ (f at s) (members_fair n _ _))

  body_fair : (at k : ℕ) (b : List ℕ) → AllFair (body_of m at k b)
  unfolding body_of
  body_fair at k b =
      cond_fair (eqb k 16) _ _ (λ e. joint_fair series lawful_series at _ (members_fair (length b) (at + 4) b))
      (cond_fair (eqb k 17) _ _ (λ e. joint_fair beside lawful_beside at _ (members_fair (length b) (at + 4) b)) (leaf_fair at k b))

pub record_fair : (left : ℕ) (outermost : Bool) (at : ℕ) (s : List ℕ) → AllFair (record_at left outermost at s)
unfolding record_at
record_fair zero outermost at s = refused_fair _
record_fair (suc left) outermost at s =
    cond_fair (eqb (head_no (suc left) outermost s) 0) _ _ (λ e. body_fair (record_at left false) (record_fair left false) at (kind_in s) (behind s)) (refused_fair _)

pub design_fair : (s : List ℕ) (p : Panel) → design_of s ≡ made p → Fair p
unfolding design_of
design_fair s = record_fair 8 true 0 s

-- ---- the feed sheet of a named network: its sheet, and a row in order
pub rows_ext : (f g : ℕ → ℕ → ℕ) (w n : ℕ) → ((L : ℕ) → L < n → (v : ℕ) → v < w → f L v ≡ g L v) → rows f w n ≡ rows g w n
unfolding rows
rows_ext f g w zero h = refl
rows_ext f g w (suc n) h =
    rw (rows_ext f g w n (λ L l. h L (omega arith)), tabulate_ext (f n) (g n) w (h n (omega arith)))

pub named_feed : (w c : ℕ) → feed_sheet (named w c) ≡ sheet_of w c ++ tabulate (λ v. v) w
unfolding feed_sheet sheet_of rows
named_feed w c =
    let d = depth_of w c in
    rw (
      add-one d,
      rows_ext (named w c).place (place_of w c) w d (λ L l v m. rw (lt-ltb L d l)),
      tabulate_ext ((named w c).place d) (λ v. v) w (λ v l. rw (le-ltb d d (omega arith))),
    )

pub panels_read : PanelsRead
panels_read = record {
  fair = λ s p e.
      let f = design_fair s p e in
      record {
        some = f.within.some;
        wide = f.within.wide;
        deep = f.within.deep;
        even = λ l. f.rowed.even l;
        rows = λ L l. once_permutation p.width (p.place L) (f.rowed.once L l);
      };
  named_feeds = named_feed;
}
