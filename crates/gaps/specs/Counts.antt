-- What the loops go by, which are lent the exit counts alone. Definitions only. Assumes nothing.
use Rattle.std.specs.Prelude.{ℕ, ◌≤◌, ◌<◌, ◌≡◌, cond, List, [], ◌∷◌, eqb, ltb, length, get_or, Result}
use Rattle.order.specs.declared.Refusal.{Refusal}
use Rattle.order.specs.Order.{◌⟶◌, first_of, filled_by, filled_of, over}
use Rattle.board.specs.declared.Board.{Board}
use Rattle.board.specs.Board.{max_entered}

-- a board of which only the exit counts matter
abbrev pub of_counts : List ℕ → Board
of_counts counts = record { entered = 0; counts = counts; toggles = []; places = [] }

-- what a walk over the exits goes by, in a sound record: few exits, small counts
pub record CanWalk (w : ℕ) (counts : List ℕ) : Type 0 where
  pub some : 0 < w
  pub few : w ≤ 64
  pub small : (i : ℕ) → get_or counts i 0 ≤ max_entered

-- a list into lent numbers: 17 output room too small
unfoldable pub room_no : List ℕ → ℕ → ℕ
room_no l room = first_of ((ltb room (length l) ⟶ 17) ∷ [])

-- what is answered, and the lent numbers after it: the places after the list stay, and a refusal changes nothing
pub record FillIs (l before after : List ℕ) (r : Result ℕ Refusal) : Type 0 where
  pub answer : filled_by r ≡ filled_of (room_no l (length before)) (length l)
  pub numbers : after ≡ cond (eqb (room_no l (length before)) 0) (over l before) before
