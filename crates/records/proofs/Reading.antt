-- Laws of reading. In order: what holds of the bytes of a record that reads; the kinds one by one; the length and the kind of a
-- record read. Assumes nothing.
use Prim.Native.Nat.{ℕ, zero, suc, ◌≤◌}
use mathlib.Core.Path.{◌≡◌, refl, sym, ◌∙◌, ap}
use mathlib.Core.Bool.{Bool, true, false, cond, ◌&&◌}
use mathlib.Core.Logic.{⊎_elim}
use mathlib.Core.List.{List}
use native.Mathlib.Omega.{arith}
use lib.ListN.{length}
use lib.Dec.{leb, eqb, lit≤}
use borrow.Author.Tests.{ltb-false, leb-true, eqb-true, not-false, le-ltb, eq-eqb}
use Rattle.std.proofs.lemmas.Bool.{and_parts, or_cases}
use Rattle.order.specs.Order.{first_of}
use Rattle.order.proofs.Order.{cleared}
use Rattle.records.specs.declared.Record.{Record}
use Rattle.records.specs.Reading.{Got, Refused, length_of, known, length_in, kind_in, record_in, read_no, read_of}
use Rattle.records.specs.Writing.{kind_of, size_of}

-- bytes whose first record is whole
pub record Whole (reports : Bool) (s : List ℕ) : Type 0 where
  pub head : 4 ≤ length s
  pub of_kind : known reports (kind_in s) ≡ true
  pub told : length_in s ≡ length_of (kind_in s)
  pub body : length_of (kind_in s) ≤ length s

module _ (reports : Bool) (s : List ℕ) where
  pub whole→read : Whole reports s → read_of reports s ≡ Got (record_in (kind_in s) s) (length_of (kind_in s))
  unfolding read_of read_no first_of
  whole→read w = rw (le-ltb _ _ w.head, w.of_kind, eq-eqb _ _ w.told, le-ltb _ _ w.body)

  unrefused→whole : read_no reports s ≡ 0 → Whole reports s
  unfolding read_no
  unrefused→whole h =
      let head = cleared _ _ _ h in
      let kind = cleared _ _ _ head.then in
      let told = cleared _ _ _ kind.then in
      let body = cleared _ _ _ told.then in
      record {
        head = ltb-false _ _ head.fails;
        of_kind = not-false _ kind.fails;
        told = eqb-true _ _ (not-false _ told.fails);
        body = ltb-false _ _ body.fails;
      }

-- a record that is read, and what it was read from
pub record Gotten (reports : Bool) (s : List ℕ) (r : Record) (n : ℕ) : Type 0 where
  pub whole : Whole reports s
  pub item : r ≡ record_in (kind_in s) s
  pub size : n ≡ length_of (kind_in s)

got_only : (b : Bool) (q r : Record) (m n k p : ℕ) → cond b (Got q m) (Refused k p) ≡ Got r n → (b ≡ true) × ((r ≡ q) × (n ≡ m))
got_only true q r m n k p h = (refl, (cc, cc))
got_only false q r m n k p h = let z : ◌≡◌ {A = ℕ} 0 1 = cc in absurd (omega arith)

pub read→gotten : (reports : Bool) (s : List ℕ) (r : Record) (n : ℕ) → read_of reports s ≡ Got r n → Gotten reports s r n
unfolding read_of
read→gotten reports s r n h =
    let g = got_only (eqb (read_no reports s) 0) _ _ _ _ _ _ h in
    record { whole = unrefused→whole reports s (eqb-true _ _ g.0); item = g.1.0; size = g.1.1 }

-- ---- what holds of each kind
from_one : (P : ℕ → Type 0) → P 1 → P 2 → P 3 → P 4 → (k : ℕ) → 1 ≤ k → k ≤ 4 → P k
from_one P a b c d zero l h = absurd (omega arith)
from_one P a b c d (suc zero) l h = a
from_one P a b c d (suc (suc zero)) l h = b
from_one P a b c d (suc (suc (suc zero))) l h = c
from_one P a b c d (suc (suc (suc (suc zero)))) l h = d
from_one P a b c d (suc (suc (suc (suc (suc k))))) l h = absurd (omega arith)

pub by_kind : (P : ℕ → Type 0) (reports : Bool) → P 1 → P 2 → P 3 → P 4 → (reports ≡ true → P 5) → (k : ℕ) → known reports k ≡ true → P k
unfolding known
by_kind P reports a b c d e k h =
    ⊎_elim (λ few. let f = and_parts _ _ few in from_one P a b c d k (leb-true _ _ f.0) (leb-true _ _ f.1))
    (λ five. let f = and_parts _ _ five in rw (eqb-true k 5 f.1) (e f.0))
    (or_cases (leb 1 k && leb k 4) (reports && eqb k 5) h)

-- ---- the length of a record read
pub record ReadLength (s : List ℕ) (r : Record) (n : ℕ) : Type 0 where
  pub least : 6 ≤ n
  pub most : n ≤ 12
  pub within : n ≤ length s
  pub is_size : n ≡ size_of r

length_of_bounds : (reports : Bool) (k : ℕ) → known reports k ≡ true → (6 ≤ length_of k) × (length_of k ≤ 12)
unfolding length_of
length_of_bounds reports =
    by_kind (λ k. (6 ≤ length_of k) × (length_of k ≤ 12)) reports (lit≤ tt, lit≤ tt) (lit≤ tt, lit≤ tt) (lit≤ tt, lit≤ tt) (lit≤ tt, lit≤ tt)
    (λ _. (lit≤ tt, lit≤ tt))

pub kind_record_in : (reports : Bool) (s : List ℕ) (k : ℕ) → known reports k ≡ true → kind_of (record_in k s) ≡ k
unfolding record_in
kind_record_in reports s = by_kind (λ k. kind_of (record_in k s) ≡ k) reports refl refl refl refl (λ _. refl)

pub read_length : (reports : Bool) (s : List ℕ) (r : Record) (n : ℕ) → read_of reports s ≡ Got r n → ReadLength s r n
unfolding size_of
read_length reports s r n h =
    let g = read→gotten reports s r n h in
    let b = length_of_bounds reports (kind_in s) g.whole.of_kind in
    record {
      least = rw g.size b.0;
      most = rw g.size b.1;
      within = rw g.size g.whole.body;
      is_size = g.size ∙ sym (rw g.item (ap length_of (kind_record_in reports s (kind_in s) g.whole.of_kind)));
    }
