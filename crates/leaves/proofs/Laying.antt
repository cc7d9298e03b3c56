-- Panels in the grid: row after row is put in, and a record that is read. Assumes nothing.
use mathlib.Core.Path.{◌≡◌, refl, sym, ap, ◌∙◌, subst}
use mathlib.Core.List.{List}
use Prim.Native.Nat.{ℕ, ◌+◌, ◌-◌, ◌<◌, ◌≤◌}
use native.Mathlib.Nat.{add-zero}
use native.Mathlib.Omega.{arith}
use lib.ListN.{length, get_or, take, drop, length-drop}
use lib.Seq.{get_or-take, length-take-le, take_all}
use borrow.Author.Count.{below_more}
use borrow.Author.Tests.{eq-eqb, ne_eqb, lt-ltb, le-ltb}
use Rattle.network.specs.Widths.{depth_of}
use Rattle.network.specs.Rows.{place_of, row_array}
use Rattle.network.proofs.Arrays.{array_is}
use Rattle.network.proofs.Rows.{row_array_is, place_of_below}
use Rattle.feed_sheet.proofs.Permutations.{distinct→}
use Rattle.designs.specs.Panels.{Panel, named}
use Rattle.designs.specs.Leaves.{Fault, refused, made, fault_of, fault, judged, cross_no}
use Rattle.designs.specs.Heads.{RefusedAt}
use Rattle.designs.proofs.Fair.{cross_fair}
use Rattle.leaves.specs.declared.grid.Grid.{Grid}
use Rattle.leaves.specs.Grid.{byte_at, Kept, Put, PutPanel}
use Rattle.leaves.specs.Told.{Refused, Made, size_of, told, ReadInto}
use Rattle.leaves.proofs.Filling.{kept_same, kept_row, kept_then}

-- ---- the first n rows of a panel
pub record Laying (p : Panel) (row col : ℕ) (before : Grid) (n : ℕ) (after : Grid) : Type 0 where
  pub kept : Kept row col before after
  pub there : row + n ≤ 37 → col + p.width ≤ 64 → (L : ℕ) → L < n → (v : ℕ) → v < p.width → byte_at after (row + L) (col + v) ≡ col + p.place L v

pub laying_none : (p : Panel) (row col : ℕ) (g : Grid) → Laying p row col g 0 g
laying_none p row col g = record { kept = kept_same row col g; there = λ r k L l. absurd (omega arith) }

-- places that are the row f of w wires
pub record RowOf (w : ℕ) (f : ℕ → ℕ) (places : List ℕ) : Type 0 where
  pub long : length places ≡ w
  pub at : (v : ℕ) → v < w → get_or places v 0 ≡ f v
  pub below : (v : ℕ) → v < length places → get_or places v 0 < length places

pub laying_more : {p : Panel} {row col : ℕ} {before : Grid} {n : ℕ} {after next : Grid} → Laying p row col before n after → {places : List ℕ}
    → Put (row + n) col places after next → RowOf p.width (p.place n) places → Laying p row col before (n + 1) next
laying_more {p} {row} {col} {before} {n} {after} {next} o {places} put is = record {
  kept = kept_then o.kept (kept_row put.row_alone) (omega arith) (omega arith);
  there = λ r k. below_more (λ L. (v : ℕ) → v < p.width → byte_at next (row + L) (col + v) ≡ col + p.place L v) n
      (λ L l v m. put.row_alone.others (row + L) (col + v) (λ e. omega arith) ∙ o.there (omega arith) k L l v m)
      (λ v m. put.there (omega arith) (omega (arith, is.long)) v (omega (arith, is.long)) ∙ ap (λ (x : ℕ). col + x) (is.at v m));
}

pub laying_first : (p : Panel) (row col : ℕ) {before after : Grid} {places : List ℕ} → Put row col places before after → RowOf p.width (p.place 0) places → Laying p row col before 1 after
laying_first p row col {before} {after} {places} put is =
    laying_more (laying_none p row col before) (subst (λ (r : ℕ). Put r col places before after) (sym (add-zero row)) put) is

pub laying_all : {p : Panel} {row col : ℕ} {before after : Grid} → Laying p row col before (p.depth + 1) after → PutPanel p row col before after
laying_all o = record { kept = o.kept; there = λ r k L v l m. o.there (omega arith) k L (omega arith) v m }

-- ---- the rows of the leaves
pub front_row : (f : ℕ → ℕ) (n : ℕ) (a : List ℕ) → length a ≡ 64 → n ≤ 64 → ((v : ℕ) → v < n → get_or a v 0 ≡ f v) → ((v : ℕ) → v < n → f v < n) → RowOf n f (take n a)
front_row f n a whole fits e low =
    let long = length-take-le n a (omega arith) in
    let is : (v : ℕ) → v < n → get_or (take n a) v 0 ≡ f v = λ v l. get_or-take n a v 0 l ∙ e v l in
    record { long = long; at = is; below = λ v l. omega (arith, is v (omega arith), low v (omega arith)) }

pub row_like : {w : ℕ} {f g : ℕ → ℕ} {places : List ℕ} → RowOf w f places → ((v : ℕ) → v < w → f v ≡ g v) → RowOf w g places
row_like o e = record { long = o.long; at = λ v l. o.at v l ∙ e v l; below = o.below }

module _ (w c : ℕ) (small : w ≤ 64) where
  pub network_row : (L : ℕ) (a : List ℕ) → length a ≡ 64 → L < depth_of w c → a ≡ row_array w c L → RowOf w ((named w c).place L) (take w a)
  network_row L a whole l e =
      let is : (v : ℕ) → v < w → get_or a v 0 ≡ place_of w c L v = λ v m. ap (λ (s : List ℕ). get_or s v 0) (e ∙ sym (row_array_is w c L l)) ∙ (array_is (place_of w c L) w).at v m in
      row_like (front_row (place_of w c L) w a whole small is (place_of_below w c L l)) (λ v m. rw (lt-ltb L (depth_of w c) l))

  pub exit_row : (a : List ℕ) → length a ≡ 64 → ((v : ℕ) → v < 64 → get_or a v 0 ≡ v) → RowOf w ((named w c).place (depth_of w c)) (take w a)
  exit_row a whole e = row_like (front_row (λ v. v) w a whole small (λ v l. e v (omega arith)) (λ v l. l)) (λ v m. rw (le-ltb (depth_of w c) (depth_of w c) (omega arith)))

pub cross_row : (places : List ℕ) → cross_no places ≡ 0 → RowOf (length places) (λ v. get_or places v 0) places
cross_row places h = record { long = refl; at = λ v l. refl; below = (distinct→ (length places) places (cross_fair places h).whole).below }

-- ---- a record that is read
module _ {row col : ℕ} where
  pub read_made : (p : Panel) {before after : Grid} → PutPanel p row col before after → ReadInto (made p) row col before after (Made (size_of p))
  unfolding told
  read_made p put = record {
    answer = refl;
    kept = put.kept;
    there = λ q d. let same : p ≡ q = cc in rw same at put.there;
  }

  pub read_refused : (x : Fault) {before after : Grid} → Kept row col before after → ReadInto (refused x) row col before after (Refused x)
  unfolding told
  read_refused x k = record {
    answer = refl;
    kept = k;
    there = λ q d. let never : ◌≡◌ {A = ℕ} 0 1 = cc in absurd (omega arith);
  }

  -- judged by a number of its own
  module _ (at : ℕ) {number no : ℕ} (p : Panel) (own : number ≡ no) where
    pub judged_made : {before after : Grid} → number ≡ 0 → PutPanel p row col before after → ReadInto (judged at no p) row col before after (Made (size_of p))
    unfolding judged
    judged_made z put = rw (eq-eqb no 0 (sym own ∙ z)) (read_made p put)

    pub judged_refused : (x : Rattle.designs.specs.declared.Fault.Fault) {before after : Grid} → RefusedAt at number x → Kept row col before after → ReadInto (judged at no p) row col before after (Refused (fault_of x))
    unfolding judged
    judged_refused x w k = rw (ne_eqb no 0 (λ z. w.some (own ∙ z)), w.told, own) (read_refused (fault at no) k)

-- what is left of bytes from a place on, as a part of them
pub rest_is : (s : List ℕ) (i : ℕ) → take (length s - i) (drop i s) ≡ drop i s
rest_is s i = take_all (length s - i) (drop i s) (simp length-drop (omega arith))
