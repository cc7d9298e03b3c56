-- The number that a text spells in decimal. Definitions only. Assumes nothing.
use Rattle.std.specs.Prelude.{ℕ, ◌+◌, ◌-◌, ◌*◌, ◌≤◌, ◌≡◌, Bool, true, cond, ◌&&◌, List, [], ◌∷◌, ltb, leb, min, length, Option, IfSome}
use Rattle.std.specs.Bool.{then_some}

-- the value of a hex digit, and 16 where the byte is none; letters are lower case
unfoldable pub digit_of : ℕ → ℕ
digit_of glyph =
    cond
    (ltb glyph 48)
    16
    (cond (leb glyph 57) (glyph - 48) (cond (ltb glyph 97) 16 (cond (leb glyph 102) (glyph - 97 + 10) 16)))

-- the value of a byte that is a digit below the base, up to 16
abbrev pub digit_in : ℕ → ℕ → Option ℕ
digit_in base glyph = then_some (ltb (digit_of glyph) (min base 16)) (digit_of glyph)

-- is each byte a digit below the base?
unfoldable pub all_below : ℕ → List ℕ → Bool
all_below base [] = true
all_below base (glyph ∷ rest) = ltb (digit_of glyph) base && all_below base rest

-- the number that decimal digits spell, behind one that is read already
unfoldable pub spelt_from : ℕ → List ℕ → ℕ
spelt_from value [] = value
spelt_from value (glyph ∷ rest) = spelt_from (value * 10 + digit_of glyph) rest

-- is the text a decimal number of one to ten digits, at most `most`?
unfoldable pub is_number : List ℕ → ℕ → Bool
is_number text most =
    ltb 0 (length text) && leb (length text) 10 && all_below 10 text && leb (spelt_from 0 text) most

-- the number that the text is, where it is one
abbrev pub decimal_in : List ℕ → ℕ → Option ℕ
decimal_in text most = then_some (is_number text most) (spelt_from 0 text)

-- the same; 0 where it is none
abbrev pub number_in : List ℕ → ℕ → ℕ
number_in text most = cond (is_number text most) (spelt_from 0 text) 0

-- a number as it is read
pub record NumberIs (text : List ℕ) (most : ℕ) (read : Option ℕ) : Type 0 where
  pub is : read ≡ decimal_in text most
  pub within : IfSome read (λ n. n ≤ most)
