-- The lines that the console answers: the refusal number, values with a blank in front of each, what was lent. Definitions only.
-- Assumes nothing.
use Rattle.std.specs.Prelude.{ℕ, List, ◌++◌}
use denote.Ref.{MutBor}
use Rattle.text.specs.Text.{letters, Puts}
use Rattle.text.specs.Numbers.{decimal, row, hex_text}
use Rattle.text.specs.Lists.{number_list}

-- `R`
unfoldable pub refusal_line : ℕ → List ℕ
refusal_line refusal = decimal refusal ++ letters "\n"

-- `R VALUE ..`
unfoldable pub head_of : ℕ → List ℕ → List ℕ
head_of refusal values = decimal refusal ++ row values

unfoldable pub values_line : ℕ → List ℕ → List ℕ
values_line refusal values = head_of refusal values ++ letters "\n"

-- `R VALUE .. LENT`
unfoldable pub lent_line : ℕ → List ℕ → List ℕ → List ℕ
lent_line refusal values lent = head_of refusal values ++ (letters " " ++ (lent ++ letters "\n"))

-- `R VALUE .. HEX`
unfoldable pub bytes_line : ℕ → List ℕ → List ℕ → List ℕ
bytes_line refusal values bytes = lent_line refusal values (hex_text bytes)

-- `R VALUE .. LIST`
unfoldable pub numbers_line : ℕ → List ℕ → List ℕ → List ℕ
numbers_line refusal values numbers = lent_line refusal values (number_list numbers)

-- each call puts the text into what it is lent, from the place on that it is given
abbrev pub PutsFrom : (MutBor (List ℕ) → ℕ → ℕ → MutBor (List ℕ) → Type 0) → List ℕ → Type 0
PutsFrom post text = (lent : MutBor (List ℕ)) (at next : ℕ) (left : MutBor (List ℕ)) → post lent at next left → Puts text at lent.now next left.now
