-- What a head that is not refused says of the bytes, and a record by its head. Assumes nothing.
use mathlib.Core.Path.{◌≡◌, refl}
use mathlib.Core.Bool.{Bool, true, false, not, cond, ◌&&◌, false≢true}
use mathlib.Core.List.{List}
use Prim.Native.Nat.{ℕ, zero, suc, ◌+◌, ◌-◌, ◌≤◌}
use native.Mathlib.Omega.{arith}
use lib.Dec.{ltb, leb, eqb}
use lib.ListN.{length, get_or, drop, length-drop}
use lib.Seq.{length-take-le}
use borrow.Author.Tests.{ltb-false, leb-true, eqb-true, eqb-false, eq-eqb, ne_eqb, not-false}
use Rattle.std.proofs.Common.{Result, Ok, Err, is_ok}
use Rattle.order.specs.declared.Refusal.{Refusal}
use Rattle.order.specs.Order.{refused_by}
use Rattle.order.proofs.Order.{cleared}
use Rattle.records.specs.Reading.{length_in, kind_in}
use Rattle.records.proofs.RoundTrips.{both}
use Rattle.designs.specs.Records.{known_kind, length_fits, behind, head_no}
use Rattle.designs.specs.Leaves.{refused, head_fault}
use Rattle.designs.specs.Designs.{body_of, record_at}

-- ---- the length of a kind is at least 4, and 5 of a cross
fits_four : (a b c : Bool) (n x : ℕ) → cond a (eqb n 4) (cond b (eqb n 8) (cond c (eqb n (5 + x)) (leb 4 n))) ≡ true → 4 ≤ n
fits_four true b c n x h = omega (arith, eqb-true n 4 h)
fits_four false true c n x h = omega (arith, eqb-true n 8 h)
fits_four false false true n x h = omega (arith, eqb-true n (5 + x) h)
fits_four false false false n x h = leb-true 4 n h

length_fits_four : (k n x : ℕ) → length_fits k n x ≡ true → 4 ≤ n
unfolding length_fits
length_fits_four k n x = fits_four (eqb k 18) (eqb k 19) (eqb k 20) n x

length_fits_cross : (k n x : ℕ) → k ≡ 20 → length_fits k n x ≡ true → n ≡ 5 + x
unfolding length_fits
length_fits_cross k n x e h = eqb-true n (5 + x) (rw e at h)

-- ---- a check that was passed
pub passed : {A : Type 0} (r : Result A Refusal) → is_ok r ≡ true → refused_by r ≡ 0
passed (Ok a) h = refl
passed (Err e) h = absurd (false≢true h)

-- the record lies within the bytes, and there is nesting left for it
pub record Whole (left : ℕ) (s : List ℕ) : Type 0 where
  pub head : 4 ≤ length_in s
  pub body : length_in s ≤ length s
  pub deep : 1 ≤ left
  pub known : known_kind (kind_in s) ≡ true
  pub width_byte : (kind_in s ≡ 16 → ⊥) → (kind_in s ≡ 17 → ⊥) → (kind_in s ≡ 18 → ⊥) → (kind_in s ≡ 19 → ⊥) → 5 ≤ length_in s

pub headed : (left : ℕ) (outermost : Bool) (s : List ℕ) → head_no left outermost s ≡ 0 → Whole left s
unfolding head_no
headed left outermost s h =
    let a = cleared (ltb (length s) 4) 10 _ h in
    let b = cleared (not (known_kind (kind_in s))) 12 _ a.then in
    let c = cleared (eqb (kind_in s) 20 && ltb (length_in s) 5) 11 _ b.then in
    let d = cleared (eqb (kind_in s) 20 && ltb (length s) 5) 22 _ c.then in
    let e = cleared (not (length_fits (kind_in s) (length_in s) (get_or s 4 0))) 11 _ d.then in
    let f = cleared (outermost && ltb (length_in s) (length s)) 11 _ e.then in
    let g = cleared (ltb (length s) (length_in s)) 22 _ f.then in
    let i = cleared (eqb left 0) 17 _ g.then in
    let known = not-false (known_kind (kind_in s)) b.fails in
    let between = both (leb 16 (kind_in s)) (leb (kind_in s) 20) known in
    let fits = not-false (length_fits (kind_in s) (length_in s) (get_or s 4 0)) e.fails in
    let some = eqb-false left 0 i.fails in
    record {
      head = length_fits_four (kind_in s) (length_in s) (get_or s 4 0) fits;
      body = ltb-false (length s) (length_in s) g.fails;
      deep = omega arith;
      known = known;
      width_byte = λ p q r t.
          let low = leb-true 16 (kind_in s) between.0 in
          let high = leb-true (kind_in s) 20 between.1 in
          omega (arith, length_fits_cross (kind_in s) (length_in s) (get_or s 4 0) (omega arith) fits);
    }

pub length_behind : (left : ℕ) (s : List ℕ) → Whole left s → length (behind s) ≡ length_in s - 4
unfolding behind
length_behind left s w = length-take-le (length_in s - 4) (drop 4 s) (simp length-drop (omega (arith, w.body)))

-- ---- a record by its head
pub record_refused : (left : ℕ) (outermost : Bool) (at : ℕ) (s : List ℕ) → (head_no left outermost s ≡ 0 → ⊥) → record_at left outermost at s ≡ refused (head_fault at (head_no left outermost s) (length s))
unfolding record_at
record_refused zero outermost at s n = refl
record_refused (suc left) outermost at s n = rw (ne_eqb _ 0 n)

pub record_headed : (left : ℕ) (outermost : Bool) (at : ℕ) (s : List ℕ) → head_no left outermost s ≡ 0
    → record_at left outermost at s ≡ body_of (record_at (left - 1) false) at (kind_in s) (behind s)
unfolding record_at
record_headed zero outermost at s h = absurd (let deep = (headed zero outermost s h).deep in omega arith)
record_headed (suc left) outermost at s h =
    let e : suc left - 1 ≡ left = omega arith in
    rw (eq-eqb _ 0 h, e)
