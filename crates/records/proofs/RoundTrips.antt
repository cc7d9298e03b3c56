-- The round trips hold: a record written reads back as itself, and a record read is written again as its own bytes.
-- Assumes nothing.
use Prim.Native.Nat.{ℕ, ◌+◌, ◌-◌, ◌≤◌, ◌<◌, ◌^◌}
use mathlib.Core.Path.{◌≡◌, refl, ◌∙◌}
use mathlib.Core.Bool.{Bool, true, false, ◌&&◌}
use mathlib.Core.List.{List, ◌++◌, append_assoc}
use native.Mathlib.Omega.{arith}
use lib.ListN.{length, get_or, take, drop}
use lib.Seq.{take-add, drop-drop}
use lib.Dec.{ltb}
use borrow.Author.Tests.{ltb-true}
use Rattle.std.proofs.lemmas.Bool.{and_parts}
use Rattle.records.specs.declared.Record.{Record}
use Rattle.records.specs.declared.Record.TheVariants.{Open, Enter, Turn, Close, Number}
use Rattle.records.specs.Fields.{spelt, field, bytes_in}
use Rattle.records.specs.Reading.{Got, length_of, known, kind_in, record_in, read_of}
use Rattle.records.specs.Writing.{kind_of, fields_of, size_of, bytes_of}
use Rattle.records.specs.RoundTrips.{fits, RoundTrips}
use Rattle.records.proofs.Fields.{spelt_bytes_in, bytes_in_field}
use Rattle.records.proofs.Writing.{length_bytes_of}
use Rattle.records.proofs.Reading.{Whole, whole→read, read→gotten, by_kind, kind_record_in, read_length}

-- ---- written, then read
whole_bytes_of : (r : Record) (rest : List ℕ) → Whole true (bytes_of r ++ rest)
unfolding bytes_of bytes_in spelt size_of length_of known
whole_bytes_of (Open w c) rest = record { head = omega arith; of_kind = refl; told = refl; body = omega arith }
whole_bytes_of (Enter t v) rest = record { head = omega arith; of_kind = refl; told = refl; body = omega arith }
whole_bytes_of (Turn t) rest = record { head = omega arith; of_kind = refl; told = refl; body = omega arith }
whole_bytes_of (Close e) rest = record { head = omega arith; of_kind = refl; told = refl; body = omega arith }
whole_bytes_of (Number t v n) rest = record { head = omega arith; of_kind = refl; told = refl; body = omega arith }

kind_bytes_of : (r : Record) (rest : List ℕ) → kind_in (bytes_of r ++ rest) ≡ kind_of r
unfolding bytes_of bytes_in spelt
kind_bytes_of (Open w c) rest = refl
kind_bytes_of (Enter t v) rest = refl
kind_bytes_of (Turn t) rest = refl
kind_bytes_of (Close e) rest = refl
kind_bytes_of (Number t v n) rest = refl

pub both : (a b : Bool) → a && b ≡ true → (a ≡ true) × (b ≡ true)
both true b h = (refl, h)
both false b h = let no : ◌≡◌ {A = ℕ} 0 1 = cc in absurd (omega arith)

two : (x : ℕ) → ltb x (2 ^ 16) ≡ true → spelt (bytes_in 2 x) ≡ x
two x h = spelt_bytes_in 2 x (ltb-true _ _ h)

four : (x : ℕ) → ltb x (2 ^ 32) ≡ true → spelt (bytes_in 4 x) ≡ x
four x h = spelt_bytes_in 4 x (ltb-true _ _ h)

record_bytes_of : (r : Record) (rest : List ℕ) → fits r ≡ true → record_in (kind_of r) (bytes_of r ++ rest) ≡ r
unfolding record_in bytes_of fits spelt bytes_in
record_bytes_of (Open w c) rest h =
    let f = and_parts (ltb w (2 ^ 16)) _ h in
    let a = two w f.0 in
    let b = two c f.1 in
    cc
record_bytes_of (Enter t v) rest h =
    let f = and_parts (ltb t (2 ^ 16)) _ h in
    let a = two t f.0 in
    let b = two v f.1 in
    cc
record_bytes_of (Turn t) rest h = let a = two t h in cc
record_bytes_of (Close e) rest h = let a = four e h in cc
record_bytes_of (Number t v n) rest h =
    let f = and_parts (ltb t (2 ^ 16) && ltb v (2 ^ 16)) _ h in
    let g = and_parts (ltb t (2 ^ 16)) _ f.0 in
    let a = two t g.0 in
    let b = two v g.1 in
    let d = four n f.1 in
    cc

read_back : (r : Record) (rest : List ℕ) → fits r ≡ true → read_of true (bytes_of r ++ rest) ≡ Got r (length (bytes_of r))
unfolding size_of
read_back r rest h =
    whole→read true (bytes_of r ++ rest) (whole_bytes_of r rest)
    ∙ rw (kind_bytes_of r rest, record_bytes_of r rest h, length_bytes_of r)

-- ---- read, then written
module _ (s : List ℕ) (small : (i : ℕ) → i < length s → get_or s i 0 < 256) where
  back : (n at : ℕ) → at + n ≤ length s → bytes_in n (field n s at) ≡ take n (drop at s)
  back n at h = bytes_in_field n s at h small

  joined : (n m at : ℕ) → take n (drop at s) ++ take m (drop (at + n) s) ≡ take (n + m) (drop at s)
  joined n m at = rw (take-add n m (drop at s), drop-drop n at s)

  two_back : 8 ≤ length s → bytes_in 2 (field 2 s 4) ++ bytes_in 2 (field 2 s 6) ≡ take 4 (drop 4 s)
  two_back h = rw (back 2 4 (omega arith), back 2 6 (omega arith)) (joined 2 2 4)

  fields_back : (k : ℕ) → known true k ≡ true → length_of k ≤ length s → fields_of (record_in k s) ≡ take (length_of k - 4) (drop 4 s)
  unfolding length_of record_in
  fields_back =
      by_kind (λ k. length_of k ≤ length s → fields_of (record_in k s) ≡ take (length_of k - 4) (drop 4 s)) true
      two_back
      two_back
      (back 2 4)
      (back 4 4)
      (λ _ h. rw (← append_assoc, two_back (omega arith), back 4 8 h) (joined 4 4 4))

  bytes_back : (r : Record) (n : ℕ) → read_of true s ≡ Got r n → bytes_of r ≡ take n s
  unfolding bytes_of size_of
  bytes_back r n h =
      let g = read→gotten true s r n h in
      let w = g.whole in
      let l = read_length true s r n h in
      let fields = fields_back (kind_in s) w.of_kind w.body in
      let whole : n ≡ 2 + (2 + (n - 4)) = omega arith in
      rw (
        g.item,
        kind_record_in true s (kind_in s) w.of_kind,
        fields,
        ← w.told,
        back 2 0 (omega arith),
        back 2 2 (omega arith),
        w.told,
        ← g.size,
        joined 2 (n - 4) 2,
        joined 2 (2 + (n - 4)) 0,
        ← whole,
      )

pub round_trips : RoundTrips
round_trips =
    record {
      written_read = read_back;
      read_written = λ s r n small h. bytes_back s small r n h;
    }
