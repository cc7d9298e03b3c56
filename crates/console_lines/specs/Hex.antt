-- The bytes that a text spells in hex, a pair of digits each. Definitions only. Assumes nothing.
use Rattle.std.specs.Prelude.{ℕ, ◌+◌, ◌*◌, ◌/◌, ◌%◌, ◌≤◌, ◌<◌, ◌≡◌, Bool, ◌&&◌, ◌||◌, List, [], ◌∷◌, ltb, eqb, length, get_or, bytes_eq}
use Rattle.console_lines.specs.Digits.{digit_of, all_below}

-- is the text pairs of hex digits, one or more?
unfoldable pub is_pairs : List ℕ → Bool
is_pairs text = (ltb 0 (length text) && eqb (length text % 2) 0) && all_below 16 text

-- is it such pairs, or `-` for no bytes?
abbrev pub is_hex : List ℕ → Bool
is_hex text = bytes_eq text (45 ∷ []) || is_pairs text

-- byte k of what the text spells; what is no digit counts as 0
unfoldable pub hex_byte : List ℕ → ℕ → ℕ
hex_byte text k =
    digit_of (get_or text (2 * k) 0) % 16 * 16 + digit_of (get_or text (2 * k + 1) 0) % 16

-- the bytes of a text are put in front, as many as there is room for
pub record HexPut (text out : List ℕ) (count : ℕ) : Type 0 where
  pub within : count ≤ length out
  pub spelt : count ≤ length text / 2
  pub all : count < length out → count ≡ length text / 2
  pub bytes : (k : ℕ) → k < count → get_or out k 0 ≡ hex_byte text k
