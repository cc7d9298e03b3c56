-- Text as bytes: quoted letters, and text that goes into a buffer. Definitions only. Assumes nothing.
use Rattle.std.specs.Prelude.{ℕ, ◌+◌, ◌≡◌, cond, List, [], ◌∷◌, ◌++◌, set, ltb}
use Prim.Native.Char.{code}
use Prim.Native.String.{String, [] as none, ◌∷◌ as ◌then◌}

-- the bytes of a quoted text, one for each letter
unfoldable pub letters : String → List ℕ
letters none = []
letters (c then s) = code c ∷ letters s

-- the texts of the members of a list, one behind another
unfoldable pub each : {A : Type 0} → (A → List ℕ) → List A → List ℕ
each text [] = []
each text (x ∷ rest) = text x ++ each text rest

-- the place behind a place; 2^64 - 1, the largest number of a place and none of any buffer, stays
unfoldable pub next_place : ℕ → ℕ
next_place at = cond (ltb at 18446744073709551615) (at + 1) at

-- the place behind a text: so many places on as it has bytes
unfoldable pub place_behind : ℕ → List ℕ → ℕ
place_behind at [] = at
place_behind at (b ∷ text) = place_behind (next_place at) text

-- a buffer with text from a place on, as far as the buffer goes; the rest of it stays
unfoldable pub stored : List ℕ → ℕ → List ℕ → List ℕ
stored out at [] = out
stored out at (b ∷ text) = stored (set out at b) (next_place at) text

-- text goes into a buffer from a place on, and `next` is the place behind it
pub record Puts (text : List ℕ) (at : ℕ) (before : List ℕ) (next : ℕ) (after : List ℕ) : Type 0 where
  pub place : next ≡ place_behind at text
  pub buffer : after ≡ stored before at text
