-- Numbers as text: in decimal, and bytes in hex. Definitions only. Assumes nothing.
use Rattle.std.specs.Prelude.{ℕ, zero, suc, ◌+◌, ◌/◌, ◌%◌, cond, List, [], ◌∷◌, ◌++◌, ltb}
use Rattle.text.specs.Text.{letters, each}

-- a number in decimal without leading zeros: the digits of its tenth, then its last one; 48 is the digit 0. The first argument
-- bounds the digits
unfoldable pub digits : ℕ → ℕ → List ℕ
digits zero x = []
digits (suc n) x = cond (ltb x 10) ((48 + x) ∷ []) (digits n (x / 10) ++ ((48 + x % 10) ∷ []))

-- a number of 64 bits has at most 20 digits
unfoldable pub decimal : ℕ → List ℕ
decimal x = digits 20 x

-- numbers, a blank in front of each
unfoldable pub blank_number : ℕ → List ℕ
blank_number x = letters " " ++ decimal x

abbrev pub row : List ℕ → List ℕ
row values = each blank_number values

-- a hex digit: 0 to 9, then a to f, which begin at 97
unfoldable pub hex_digit : ℕ → ℕ
hex_digit v = cond (ltb v 10) (48 + v) (87 + v)

-- a byte as two hex digits, the higher half first
unfoldable pub hex_pair : ℕ → List ℕ
hex_pair b = hex_digit (b / 16) ∷ hex_digit (b % 16) ∷ []

-- bytes as pairs of hex digits; `-` where there are none
unfoldable pub hex_text : List ℕ → List ℕ
hex_text [] = letters "-"
hex_text (b ∷ rest) = each hex_pair (b ∷ rest)
