-- Laws of the entries of lists. In order: what is given where tests hold; an entry that is an index. Assumes nothing.
use Prim.Native.Nat.{ℕ, ◌+◌, ◌<◌}
use native.Mathlib.Omega.{arith}
use mathlib.Core.Path.{◌≡◌, refl}
use mathlib.Core.Bool.{Bool, true, false, ◌&&◌}
use mathlib.Core.List.{List, [], ◌∷◌}
use lib.Dec.{ltb, leb, eqb}
use lib.ListN.{length}
use borrow.Author.Tests.{ltb-true, ne_eqb}
use Rattle.std.proofs.Common.{Some, None}
use Rattle.std.specs.Bool.{then_some}
use Rattle.std.proofs.lemmas.List.Splits.{slice_split-cons_no}
use Rattle.board.proofs.Lists.{and_left, and_right}
use Rattle.console_lines.specs.Digits.{digit_of, all_below, is_number}
use Rattle.console_lines.specs.Marked.{parts_of, part_at}
use Rattle.console_lists.specs.Entries.{index_in, is_index, next_of, IndexIs}

-- ---- what is given where tests hold

module _ {A : Type 0} where
  pub none_tells : (b : Bool) (x : A) → None ≡ then_some b x → b ≡ false
  none_tells true x e = cc
  none_tells false x e = refl

  pub some_tells : (b : Bool) (x y : A) → Some y ≡ then_some b x → (b ≡ true) × (x ≡ y)
  some_tells true x y e = (refl, cc)
  some_tells false x y e = cc

-- ---- an entry that is an index: digits hold no `=`, so it is its own first part

no_mark : (text : List ℕ) → all_below 10 text ≡ true → parts_of 61 text ≡ text ∷ []
unfolding all_below digit_of
no_mark [] digits = refl
no_mark (x ∷ rest) digits =
    let digit : digit_of x < 10 = ltb-true _ _ (and_left _ _ digits) in
    let later : all_below 10 rest ≡ true = and_right (ltb (digit_of x) 10) _ digits in
    let other : x ≡ 61 → ⊥ = λ mark. let no : digit_of 61 < 10 = rw mark at digit in omega arith in
    rw (slice_split-cons_no (λ glyph. eqb glyph 61) x rest (ne_eqb x 61 other), no_mark rest later)

index_part : (entry : List ℕ) (least size : ℕ) → is_index entry least size ≡ true → part_at 61 entry 0 ≡ entry
unfolding is_index is_number part_at
index_part entry least size is =
    let number : is_number entry 65535 ≡ true = and_left _ _ (and_left (is_number entry 65535 && leb least (index_in entry)) _ is) in
    let short = ltb 0 (length entry) && leb (length entry) 10 in
    let digits : all_below 10 entry ≡ true = and_right short _ (and_left (short && all_below 10 entry) _ number) in
    rw (no_mark entry digits)

module _ (entry : List ℕ) (least size : ℕ) where
  pub some_index : {at : ℕ} → IndexIs (is_index entry least size) (index_in entry) size (Some at) → Some (at + 1) ≡ then_some (is_index entry least size) (next_of entry)
  some_index {at} read =
      let some = some_tells (is_index entry least size) (index_in entry) at read.read_is in
      rw (index_part entry least size some.0, some.0, some.1)
