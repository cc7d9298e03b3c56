-- What the gap list comes to, said of any list: the missing numbers below n and no others, rising. The statement only; that
-- `gaps_below` is such a list is `gaps_are` of proofs/Missing. Assumes nothing.
use Rattle.std.specs.Prelude.{ℕ, ◌<◌, ◌≡◌, true, length, get_or}
use mathlib.Core.List.{List, Memᴰ}
use Rattle.board.specs.declared.Board.{Board}
use Rattle.gaps.specs.Gaps.{missing}

pub record MissingBelow (w : ℕ) (x : Board) (n : ℕ) (l : List ℕ) : Type 0 where
  pub holds : (v : ℕ) → v < n → missing w x v ≡ true → Memᴰ v l
  pub only : (v : ℕ) → Memᴰ v l → (v < n) × (missing w x v ≡ true)
  pub rising : (i j : ℕ) → i < j → j < length l → get_or l i 0 < get_or l j 0
