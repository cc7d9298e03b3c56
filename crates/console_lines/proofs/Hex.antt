-- Laws of bytes in hex. In order: a digit that counts as 0 where it is none; texts that are pairs of digits; one byte more.
-- Assumes nothing.
use Prim.Native.Nat.{ℕ, ◌+◌, ◌*◌, ◌%◌, ◌<◌, ◌≤◌}
use native.Mathlib.Omega.{arith}
use mathlib.Core.Path.{◌≡◌, refl, ◌∙◌}
use mathlib.Core.Bool.{Bool, true, false}
use mathlib.Core.List.{List, [], ◌∷◌}
use lib.Dec.{ltb}
use lib.ListN.{length, get_or, set}
use lib.Seq.{get_or-set_same, get_or-set_other}
use borrow.Author.Count.{below_more}
use borrow.Author.Tests.{ltb-true, ltb-false}
use Rattle.std.proofs.Common.{Option, unwrap_or, is_some}
use Rattle.std.specs.Bool.{then_some}
use Rattle.std.specs.List.{list_all}
use Rattle.console_lines.specs.Digits.{digit_of, digit_in, all_below}
use Rattle.console_lines.specs.Hex.{hex_byte}

-- ---- a digit

digit_most : (glyph : ℕ) → digit_of glyph ≤ 16
unfolding digit_of
digit_most glyph = grind arith

or_none : (b : Bool) (x : ℕ) → ltb x 16 ≡ b → x ≤ 16 → unwrap_or (then_some b x) 0 ≡ x % 16
or_none true x e most = let below = ltb-true x 16 e in omega arith
or_none false x e most = let above = ltb-false x 16 e in omega arith

digit_or : (glyph : ℕ) → unwrap_or (digit_in 16 glyph) 0 ≡ digit_of glyph % 16
digit_or glyph = or_none _ (digit_of glyph) refl (digit_most glyph)

-- ---- is it hex?

is_some_then : (b : Bool) (x : ℕ) → is_some (then_some b x) ≡ b
is_some_then true x = refl
is_some_then false x = refl

pub digits_all : (text : List ℕ) → list_all (λ glyph. is_some (digit_in 16 glyph)) text ≡ all_below 16 text
unfolding all_below
digits_all [] = refl
digits_all (glyph ∷ rest) = rw (is_some_then, digits_all rest)

-- ---- one byte more

module _ (text : List ℕ) (i : ℕ) where
  pub byte_is : (high low : Option ℕ) → high ≡ digit_in 16 (get_or text (2 * i) 0) → low ≡ digit_in 16 (get_or text (2 * i + 1) 0) → unwrap_or high 0 * 16 + unwrap_or low 0 ≡ hex_byte text i
  unfolding hex_byte
  byte_is high low high-is low-is = rw (high-is, low-is, digit_or (get_or text (2 * i) 0), digit_or (get_or text (2 * i + 1) 0))

  -- a byte that is put leaves those in front of it
  pub byte_more : (out : List ℕ) (value : ℕ) → i < length out → ((k : ℕ) → k < i → get_or out k 0 ≡ hex_byte text k) → value ≡ hex_byte text i → (k : ℕ) → k < i + 1 → get_or (set out i value) k 0 ≡ hex_byte text k
  byte_more out value room before is =
      below_more
      (λ (k : ℕ). get_or (set out i value) k 0 ≡ hex_byte text k)
      i
      (λ k front. get_or-set_other out i k value 0 (λ e. omega arith) ∙ before k front)
      (get_or-set_same out i value 0 room ∙ is)
