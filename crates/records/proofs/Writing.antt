-- Laws of writing. In order: bytes placed behind bytes; the length of a record's bytes; what the writer answers and leaves.
-- Assumes nothing.
use Prim.Native.Nat.{ℕ, ◌+◌, ◌≤◌, ◌<◌}
use mathlib.Core.Path.{◌≡◌, refl, sym, ◌∙◌}
use mathlib.Core.List.{List, ◌++◌, append_assoc}
use native.Mathlib.Omega.{arith}
use native.Mathlib.Nat.{add_assoc, zero-add}
use lib.ListN.{length, take, drop, length-append}
use lib.Seq.{length-take-le, take_at, drop_at, drop-drop}
use borrow.Author.Tests.{lt-ltb, le-ltb}
use borrow.Rule.Slice.PartMut.{put_mid}
use Rattle.std.proofs.Common.{Ok, Err}
use Rattle.std.proofs.lemmas.Slice.{put_mid-paste}
use Rattle.std.proofs.lemmas.List.Edits.{paste_all}
use Rattle.records.specs.declared.Record.{Record}
use Rattle.records.specs.declared.Record.TheVariants.{Open, Enter, Turn, Close, Number}
use Rattle.records.specs.Fields.{bytes_in, placed}
use Rattle.records.specs.Reading.{length_of}
use Rattle.records.specs.Writing.{fields_of, size_of, bytes_of, write_no, Writes}
use Rattle.order.specs.Order.{first_of, over}
use Rattle.order.specs.declared.Refusal.TheVariants as Refusal

-- ---- placing
module _ (out : List ℕ) (at : ℕ) (a : List ℕ) (within : at ≤ length out) where
  length_front : length (take at out ++ a) ≡ at + length a
  length_front = rw (length-append, length-take-le)

  -- more bytes behind those placed
  placed_placed : (b : List ℕ) → placed (placed out at a) (at + length a) b ≡ placed out at (a ++ b)
  unfolding placed
  placed_placed b =
      let front : List ℕ = take at out ++ a in
      let rest : List ℕ = drop (at + length a) out in
      rw (
        ← append_assoc (take at out) a rest,
        take_at front rest (at + length a) length_front,
        ← drop-drop (length b) (at + length a) (front ++ rest),
        drop_at front rest (at + length a) length_front,
        drop-drop,
        length-append,
        add_assoc,
        append_assoc (take at out) a,
        append_assoc a b,
      )

-- the same at the place that the first bytes end at, however it is written
pub placed_more : (out : List ℕ) (at : ℕ) (a : List ℕ) (next : ℕ) (b : List ℕ) → next ≡ at + length a → at ≤ length out
    → placed (placed out at a) next b ≡ placed out at (a ++ b)
placed_more out at a next b e within = rw e (placed_placed out at a within b)

-- bytes copied into the part from a place on
pub placed_part : (out part bytes : List ℕ) (at k : ℕ) → k ≡ length bytes → part ≡ bytes → put_mid at k out part ≡ placed out at bytes
unfolding placed
placed_part out part bytes at k long copied =
    put_mid-paste at k out part bytes (length bytes) copied (sym long) refl ∙ paste_all out at bytes (length bytes) refl

pub size_fields : (r : Record) → size_of r ≡ 4 + length (fields_of r)
unfolding size_of length_of bytes_in
size_fields (Open w c) = refl
size_fields (Enter t v) = refl
size_fields (Turn t) = refl
size_fields (Close e) = refl
size_fields (Number t v n) = refl

pub length_bytes_of : (r : Record) → length (bytes_of r) ≡ size_of r
unfolding bytes_of bytes_in
length_bytes_of r = omega (arith, size_fields r)

-- ---- in front of the buffer
placed_front : (out bytes : List ℕ) → placed out 0 bytes ≡ over bytes out
unfolding placed
placed_front out bytes = rw (zero-add (length bytes))

-- bytes behind those that stand in front, as one report behind another
pub over_more : (out done bytes : List ℕ) → placed (over done out) (length done) bytes ≡ over (done ++ bytes) out
over_more out done bytes =
    rw (← placed_front out done, ← placed_front out (done ++ bytes), ← placed_placed out 0 done (omega arith) bytes, zero-add (length done))

module _ (r : Record) (out : List ℕ) (size : ℕ) (is_size : size ≡ size_of r) where
  pub writes_none : length out < size → Writes r out (Err Refusal.NoRoom) out
  unfolding write_no first_of
  writes_none short = record { answer = rw (← is_size, lt-ltb _ _ short); buffer = rw (← is_size, lt-ltb _ _ short) }

  pub writes_all : (after : List ℕ) → size ≤ length out → after ≡ placed out 0 (bytes_of r)
      → Writes r out (Ok size) after
  unfolding write_no first_of
  writes_all after fits e =
      record {
        answer = rw (← is_size, le-ltb _ _ fits);
        buffer = rw (← is_size, le-ltb _ _ fits, ← placed_front) e;
      }
