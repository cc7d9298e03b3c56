-- Laws of digits and decimal numbers. In order: what is read of a byte; while digits are passed; while they spell a number; what is
-- read of a text. Assumes nothing.
use Prim.Native.Nat.{ℕ, suc, min, ◌+◌, ◌*◌, ◌^◌, ◌≤◌, ◌<◌}
use native.Mathlib.Nat.{pow-succ'}
use native.Mathlib.Numerals.{add-one}
use native.Mathlib.Omega.{arith}
use mathlib.Core.Logic.{◌⊎◌, ⊎_elim}
use mathlib.Core.Path.{◌≡◌, refl, ◌∙◌}
use mathlib.Core.Bool.{Bool, true, false, ◌&&◌}
use mathlib.Core.List.{List}
use lib.Dec.{ltb, leb}
use lib.ListN.{length, drop, get_or, drop_of_length-le}
use lib.Seq.{drop-cons}
use borrow.Author.Tests.{lt-ltb, le-ltb, le-leb, lt-leb, ltb-true, leb-true}
use Rattle.std.proofs.Common.{Some, None, IfSome}
use Rattle.std.specs.Bool.{then_some}
use Rattle.console_lines.specs.Digits.{digit_of, digit_in, all_below, spelt_from, is_number, NumberIs}

-- ---- what is given where a test holds

pub some_tells : (b : Bool) {x y : ℕ} → then_some b x ≡ Some y → (b ≡ true) × (x ≡ y)
some_tells true e = (refl, cc)
some_tells false e = cc

none_tells : (b : Bool) (x : ℕ) → then_some b x ≡ None → b ≡ false
none_tells true x e = cc
none_tells false x e = refl

most_in : (b : Bool) (x most : ℕ) → leb x most ≡ b → IfSome (then_some b x) (λ n. n ≤ most)
most_in true x most e = leb-true x most e
most_in false x most e = tt

-- ---- a digit

pub digit_some : (base glyph : ℕ) {d : ℕ} → digit_in base glyph ≡ Some d → (digit_of glyph ≡ d) × (d < min base 16)
digit_some base glyph e =
    let some = some_tells (ltb (digit_of glyph) (min base 16)) e in
    (some.1, omega (arith, some.1, ltb-true _ _ some.0))

pub digit_none : (base glyph : ℕ) → digit_in base glyph ≡ None → ltb (digit_of glyph) (min base 16) ≡ false
digit_none base glyph e = none_tells (ltb (digit_of glyph) (min base 16)) _ e

-- ---- digits below a base

-- i bytes are passed, and each is such a digit
pub record DigitsTo (base : ℕ) (text : List ℕ) (i : ℕ) : Type 0 where
  pub within : i ≤ length text
  pub so_far : all_below base text ≡ all_below base (drop i text)

below_more : (base : ℕ) (text : List ℕ) (i : ℕ) → i < length text → all_below base (drop i text) ≡ (ltb (digit_of (get_or text i 0)) base && all_below base (drop (suc i) text))
unfolding all_below
below_more base text i more = rw (drop-cons text i 0 more)

module _ {base : ℕ} {text : List ℕ} {i : ℕ} (passed : DigitsTo base text i) where
  pub digits_more : i < length text → digit_of (get_or text i 0) < base → DigitsTo base text (i + 1)
  digits_more more below =
      record {
        within = omega arith;
        so_far = rw add-one (passed.so_far ∙ below_more base text i more ∙ rw (lt-ltb _ _ below));
      }

  pub digits_other : i < length text → ltb (digit_of (get_or text i 0)) base ≡ false → all_below base text ≡ false
  digits_other more above = passed.so_far ∙ below_more base text i more ∙ rw above

  pub digits_all : length text ≤ i → all_below base text ≡ true
  unfolding all_below
  digits_all last = passed.so_far ∙ rw (drop_of_length-le text last)

-- ---- a decimal number

-- i digits are passed, and they spell the value
pub record Passed (text : List ℕ) (value i : ℕ) : Type 0 where
  pub digits : DigitsTo 10 text i
  pub spells : spelt_from 0 text ≡ spelt_from value (drop i text)
  pub small : value < 10 ^ i

spelt_more : (text : List ℕ) (value i : ℕ) → i < length text → spelt_from value (drop i text) ≡ spelt_from (value * 10 + digit_of (get_or text i 0)) (drop (suc i) text)
unfolding spelt_from
spelt_more text value i more = rw (drop-cons text i 0 more)

module _ {text : List ℕ} {value i : ℕ} (passed : Passed text value i) where
  pub passed_more : {d : ℕ} → i < length text → digit_of (get_or text i 0) ≡ d → d < 10 → Passed text (value * 10 + d) (i + 1)
  passed_more more is below =
      record {
        digits = digits_more passed.digits more (omega (arith, is));
        spells = rw (add-one, ← is) (passed.spells ∙ spelt_more text value i more);
        small = rw (add-one, pow-succ') (omega (arith, passed.small));
      }

  passed_spells : length text ≤ i → spelt_from 0 text ≡ value
  unfolding spelt_from
  passed_spells last = passed.spells ∙ rw (drop_of_length-le text last)

-- ---- what is read of a text

module _ {text : List ℕ} {most : ℕ} where
  read_none : is_number text most ≡ false → NumberIs text most None
  read_none refused = record { is = rw refused; within = tt }

  pub read_outside : length text ≡ 0 ⊎ 10 < length text → NumberIs text most None
  unfolding is_number
  read_outside outside =
      ⊎_elim
      (λ none. read_none (simp (le-ltb 0 (length text) (omega arith))))
      (λ long. read_none (simp (lt-ltb 0 (length text) (omega arith), lt-leb (length text) 10 long)))
      outside

  module _ (some : 0 < length text) (few : length text ≤ 10) where
    pub read_other : all_below 10 text ≡ false → NumberIs text most None
    unfolding is_number
    read_other other = read_none (simp (lt-ltb 0 (length text) some, le-leb (length text) 10 few, other))

    pub read_number : {value i : ℕ} → Passed text value i → length text ≤ i → NumberIs text most (then_some (leb value most) value)
    unfolding is_number
    read_number {value} passed last =
        record {
          is =
              simp
              (lt-ltb 0 (length text) some, le-leb (length text) 10 few, digits_all passed.digits last, passed_spells passed last);
          within = most_in _ value most refl;
        }
