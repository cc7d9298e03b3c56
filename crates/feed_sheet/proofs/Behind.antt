-- A row read from its end, byte by byte, as the judge does. Assumes nothing.
use mathlib.Core.Path.{◌≡◌, refl, sym, ap, ◌∙◌}
use mathlib.Core.Bool.{Bool, true, false, and-false}
use mathlib.Core.List.{List, [], ◌∷◌, ◌++◌}
use Prim.Native.Nat.{ℕ, ◌<◌, ◌≤◌}
use native.Mathlib.Decide.{ℕ_discrete}
use native.Mathlib.Omega.{arith}
use lib.ListN.{length, get_or, set, replicate, length-set, length-replicate, get_or-replicate}
use lib.Seq.{get_or-set_same, get_or-set_other}
use borrow.Author.Tests.{lt-ltb, le-ltb, eq-eqb, ne_eqb}
use Rattle.std.proofs.lemmas.List.{append-nil, append_assoc, get_or_at}
use Rattle.feed_sheet.specs.Limits.{among, distinct, permutation}

-- behind the front of a row the bytes are below the length and apart, and `seen` marks them
pub record Behind (row : List ℕ) (seen : List Bool) (front : List ℕ) : Type 0 where
  pub back : List ℕ
  pub parts : row ≡ front ++ back
  pub long : length seen ≡ 256
  pub once : distinct (length row) back ≡ true
  pub marks : (p : ℕ) → p < 256 → get_or seen p false ≡ among p back

pub behind_none : {row front : List ℕ} → front ≡ row → Behind row (replicate 256 false) front
unfolding among distinct
behind_none {row} {front} e = record {
  back = [];
  parts = sym (append-nil front ∙ e);
  long = length-replicate 256 false;
  once = refl;
  marks = λ p l. get_or-replicate 256 p false false l;
}

-- a fault behind a front is one of the row
fault_behind : (n : ℕ) (front back : List ℕ) → distinct n back ≡ false → false ≡ distinct n (front ++ back)
unfolding distinct
fault_behind n [] back h = sym h
fault_behind n (b ∷ front) back h = rw (← fault_behind n front back h) (sym (simp and-false))

module _ {row : List ℕ} {seen : List Bool} {front : List ℕ} (k : Behind row seen front) (rest : List ℕ) (b : ℕ) (last : front ≡ rest ++ b ∷ []) where
  next : row ≡ rest ++ b ∷ k.back
  next = k.parts ∙ ap (λ (s : List ℕ). s ++ k.back) last ∙ append_assoc rest (b ∷ []) k.back

  fault : distinct (length row) (b ∷ k.back) ≡ false → false ≡ permutation row
  fault h = fault_behind (length row) rest (b ∷ k.back) h ∙ ap (distinct (length row)) (sym next)

  pub too_high : length row ≤ b → false ≡ permutation row
  unfolding distinct
  too_high h = fault (rw (le-ltb b (length row) h))

  module _ (bytes : (i : ℕ) → get_or row i 0 < 256) (low : b < length row) where
    small : b < 256
    small = rw (next, get_or_at rest b k.back 0 (length rest) refl) at (bytes (length rest))

    pub twice : get_or seen b false ≡ true → false ≡ permutation row
    unfolding distinct
    twice h = fault (rw (lt-ltb b (length row) low, ← k.marks b small, h))

    pub behind_more : get_or seen b false ≡ false → Behind row (set seen b true) rest
    unfolding distinct among
    behind_more h = record {
      back = b ∷ k.back;
      parts = next;
      long = length-set seen b true ∙ k.long;
      once = rw (lt-ltb b (length row) low, ← k.marks b small, h) k.once;
      marks = λ p l. elim (ℕ_discrete p b) [
        | yes e ↦ rw (e, eq-eqb b b refl) (get_or-set_same seen b true false (omega (arith, k.long)))
        | no m ↦ rw (ne_eqb b p (λ e. m (sym e))) (get_or-set_other seen b p true false m ∙ k.marks p l)
      ];
    }

pub behind_all : {row : List ℕ} {seen : List Bool} (front : List ℕ) → Behind row seen front → length front ≡ 0 → true ≡ permutation row
behind_all {row} [] k l = sym k.once ∙ ap (distinct (length row)) (sym k.parts)
behind_all {row} (b ∷ front) k l = absurd (omega arith)
