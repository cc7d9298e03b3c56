-- The words of a line, with one blank between them. Definitions only. Assumes nothing.
use Rattle.std.specs.Prelude.{ℕ, ◌≤◌, ◌≡◌, List}
use Rattle.console_lines.specs.Marked.{part_at}
use Rattle.console_lines.specs.Digits.{number_in}

-- word k of a line, from 0; nothing where there are fewer
abbrev pub word_at : List ℕ → ℕ → List ℕ
word_at line k = part_at 32 line k

-- a number of 16 bits, one of 32, and the length of what is lent; 0 where the word is none
abbrev pub short_at : List ℕ → ℕ → ℕ
short_at line k = number_in (word_at line k) 65535

abbrev pub long_at : List ℕ → ℕ → ℕ
long_at line k = number_in (word_at line k) 4294967295

abbrev pub room_at : List ℕ → ℕ → ℕ
room_at line k = number_in (word_at line k) 65536

-- the number that word k is, at most `most`; 0 where it is none
pub record WordIs (line : List ℕ) (k most value : ℕ) : Type 0 where
  pub is : value ≡ number_in (word_at line k) most
  pub within : value ≤ most
