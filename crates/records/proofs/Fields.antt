-- Laws of fields. In order: a field by its bytes, and past the end; a number as bytes and back, over the size of the field;
-- the bytes of a field and back. Assumes nothing.
use Prim.Native.Nat.{ℕ, zero, suc, ◌+◌, ◌*◌, ◌/◌, ◌%◌, ◌^◌, ◌<◌, ◌≤◌}
use mathlib.Core.Path.{◌≡◌, refl, sym, ◌∙◌, ap}
use mathlib.Core.List.{List, [], ◌∷◌}
use native.Mathlib.Omega.{arith}
use native.Mathlib.Nat.{add-zero, pow-succ'}
use lib.ListN.{length, get_or, take, drop, length-drop, drop_of_length-le}
use lib.Seq.{get_or-drop, get_or-take, length-take-le}
use Rattle.std.specs.Int.{w32, to_le_bytes}
use Rattle.records.specs.Fields.{spelt, field, bytes_in}

-- a byte past the end counts as 0
pub spelt_two : (s : List ℕ) → spelt (take 2 s) ≡ get_or s 0 0 + 256 * get_or s 1 0
unfolding spelt
spelt_two [] = refl
spelt_two (a ∷ []) = refl
spelt_two (a ∷ b ∷ s) = omega arith

pub field_two : (s : List ℕ) (at : ℕ) → field 2 s at ≡ get_or s at 0 + 256 * get_or s (at + 1) 0
field_two s at = spelt_two (drop at s) ∙ rw (get_or-drop at s 0 0, get_or-drop at s 1 0, add-zero at)

pub spelt_four : (s : List ℕ) → spelt (take 4 s) ≡ get_or s 0 0 + 256 * get_or s 1 0 + 65536 * get_or s 2 0 + 16777216 * get_or s 3 0
unfolding spelt
spelt_four [] = refl
spelt_four (a ∷ []) = omega arith
spelt_four (a ∷ b ∷ []) = omega arith
spelt_four (a ∷ b ∷ c ∷ []) = omega arith
spelt_four (a ∷ b ∷ c ∷ d ∷ s) = omega arith

pub field_four : (s : List ℕ) (at : ℕ)
    → field 4 s at ≡ get_or s at 0 + 256 * get_or s (at + 1) 0 + 65536 * get_or s (at + 2) 0 + 16777216 * get_or s (at + 3) 0
field_four s at =
    spelt_four (drop at s)
    ∙ rw (get_or-drop at s 0 0, get_or-drop at s 1 0, get_or-drop at s 2 0, get_or-drop at s 3 0, add-zero at)

-- past the end there is only 0
pub field_past : (n : ℕ) (s : List ℕ) (at : ℕ) → length s ≤ at → field n s at ≡ 0
unfolding spelt
field_past zero s at h = refl
field_past (suc n) s at h = rw (drop_of_length-le s h)

-- the library's bytes of a number are these
pub bytes_in_four : (x : ℕ) → to_le_bytes w32 x ≡ bytes_in 4 x
unfolding bytes_in
bytes_in_four x =
    let third : x / 65536 ≡ x / 256 / 256 = omega arith in
    let fourth : x / 16777216 ≡ x / 256 / 256 / 256 = omega arith in
    rw (third, fourth)

-- a number that fits its field is spelt by its bytes
pub spelt_bytes_in : (n x : ℕ) → x < 256 ^ n → spelt (bytes_in n x) ≡ x
unfolding spelt bytes_in
spelt_bytes_in zero x h = omega arith
spelt_bytes_in (suc n) x h =
    let ih = spelt_bytes_in n (x / 256) (omega (arith, pow-succ' 256 n)) in
    omega arith

-- and bytes are those of the number they spell
pub bytes_in_spelt : (bytes : List ℕ) → ((i : ℕ) → i < length bytes → get_or bytes i 0 < 256) → bytes_in (length bytes) (spelt bytes) ≡ bytes
unfolding spelt bytes_in
bytes_in_spelt [] small = refl
bytes_in_spelt (b ∷ bytes) small =
    let is_byte : b < 256 = small 0 (omega arith) in
    let low : (b + 256 * spelt bytes) % 256 ≡ b = omega arith in
    let high : (b + 256 * spelt bytes) / 256 ≡ spelt bytes = omega arith in
    rw (low, high, bytes_in_spelt bytes (λ i h. small (suc i) (omega arith)))

pub bytes_in_field : (n : ℕ) (s : List ℕ) (at : ℕ) → at + n ≤ length s → ((i : ℕ) → i < length s → get_or s i 0 < 256)
    → bytes_in n (field n s at) ≡ take n (drop at s)
bytes_in_field n s at fits small =
    let whole : length (take n (drop at s)) ≡ n = length-take-le n (drop at s) (simp length-drop (omega arith)) in
    ap (λ (m : ℕ). bytes_in m (field n s at)) (sym whole)
    ∙ bytes_in_spelt (take n (drop at s)) (λ i h. rw (get_or-take n (drop at s) i 0 (omega arith), get_or-drop at s i 0) (small (at + i) (omega arith)))
