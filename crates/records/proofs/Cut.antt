-- A record whose bytes end early. In order: the fields that are there; a record that is whole reads the same without what stands
-- behind it; a cut head; a cut body. Assumes nothing.
use Prim.Native.Nat.{ℕ, ◌+◌, ◌-◌, ◌<◌, ◌≤◌}
use mathlib.Core.Path.{◌≡◌, ◌∙◌}
use mathlib.Core.Bool.{Bool, true}
use mathlib.Core.List.{List}
use native.Mathlib.Omega.{arith}
use lib.ListN.{length, take, drop, length-take}
use lib.Seq.{take-take, length-take-le}
use borrow.Author.Tests.{lt-ltb, le-ltb, eq-eqb}
use Rattle.std.proofs.lemmas.Slice.{between_is}
use Rattle.order.specs.Order.{first_of}
use Rattle.records.specs.declared.Record.{Record}
use Rattle.records.specs.Fields.{field}
use Rattle.records.specs.Reading.{Got, Refused, length_of, known, length_in, kind_in, record_in, read_no, present_of, read_of}
use Rattle.records.proofs.Reading.{Whole, whole→read, read→gotten, by_kind}

-- ---- the first m bytes of s
pub field_take : (n m : ℕ) (s : List ℕ) (at : ℕ) → at + n ≤ m → field n (take m s) at ≡ field n s at
field_take n m s at h = rw (← between_is s at m, take-take n (m - at) (drop at s) (omega arith))

record_take : (reports : Bool) (m : ℕ) (s : List ℕ) (k : ℕ) → known reports k ≡ true → length_of k ≤ m → record_in k (take m s) ≡ record_in k s
unfolding record_in length_of
record_take reports m s =
    by_kind (λ k. length_of k ≤ m → record_in k (take m s) ≡ record_in k s) reports
    (λ h. rw (field_take 2 m s 4 (omega arith), field_take 2 m s 6 (omega arith)))
    (λ h. rw (field_take 2 m s 4 (omega arith), field_take 2 m s 6 (omega arith)))
    (λ h. rw (field_take 2 m s 4 (omega arith)))
    (λ h. rw (field_take 4 m s 4 (omega arith)))
    (λ _ h. rw (field_take 2 m s 4 (omega arith), field_take 2 m s 6 (omega arith), field_take 4 m s 8 (omega arith)))

-- ---- the record in front of s, of which the first m bytes are left
pub read_head_cut : (reports : Bool) (s : List ℕ) (m : ℕ) → m ≤ length s → m < 4 → read_of reports (take m s) ≡ Refused 11 m
unfolding read_of read_no first_of present_of
read_head_cut reports s m within h = rw (length-take-le m s within, lt-ltb m 4 h)

module _ (reports : Bool) (s : List ℕ) (r : Record) (len : ℕ) (read : read_of reports s ≡ Got r len) (m : ℕ) (head : 4 ≤ m) where
  same_kind : kind_in (take m s) ≡ kind_in s
  same_kind = field_take 2 m s 2 (omega arith)

  same_length : length_in (take m s) ≡ length_in s
  same_length = field_take 2 m s 0 (omega arith)

  pub read_whole : len ≤ m → read_of reports (take m s) ≡ Got r len
  read_whole h =
      let g = read→gotten reports s r len read in
      let long : length_of (kind_in s) ≤ length (take m s) = rw length-take (omega (arith, g.size, g.whole.body)) in
      let w : Whole reports (take m s) = record {
        head = omega (arith, length-take m s, g.whole.head);
        of_kind = rw same_kind g.whole.of_kind;
        told = rw (same_kind, same_length) g.whole.told;
        body = rw same_kind long;
      } in
      whole→read reports (take m s) w
      ∙ rw (same_kind, record_take reports m s (kind_in s) g.whole.of_kind (omega (arith, g.size)), ← g.item, ← g.size)

  pub read_body_cut : m < len → read_of reports (take m s) ≡ Refused 23 m
  unfolding read_of read_no first_of present_of
  read_body_cut h =
      let g = read→gotten reports s r len read in
      let l : length (take m s) ≡ m = length-take-le m s (omega (arith, g.size, g.whole.body)) in
      rw
      (l, le-ltb m 4 head, same_kind, g.whole.of_kind, same_length, eq-eqb _ _ g.whole.told, lt-ltb m (length_of (kind_in s)) (omega (arith, g.size)))
