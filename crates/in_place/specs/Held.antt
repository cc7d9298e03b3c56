-- What a run that is wired up holds, and what a call in place leaves. Definitions only. Assumes nothing.
use Rattle.std.specs.Prelude.{ℕ, ◌<◌, ◌≤◌, ◌≡◌, List, [], true, length, get_or, Result}
use Rattle.order.specs.declared.After.{After}
use Rattle.order.specs.declared.Refusal.{Refusal}
use Rattle.network.specs.Rows.{row_array}
use Rattle.board.specs.Sound.{sound_board}
use Rattle.run.specs.declared.Run.{Run}
use Rattle.run.specs.Run.{depth_in}

-- the table has the row of each layer
pub record Wired (x : Run) (table : List (List ℕ)) : Type 0 where
  pub rows : (L : ℕ) → L < depth_in x → get_or table L [] ≡ row_array x.width x.construction L

-- the arrays are as long as their types say, and the board is sound for the width; before an opening the width is 0
pub record Steady (x : Run) : Type 0 where
  pub counts : length x.board.counts ≡ 64
  pub toggles : length x.board.toggles ≡ 1152
  pub places : length x.board.places ≡ 256
  pub width : x.width ≤ 64
  pub board : sound_board x.width (depth_in x) x.board ≡ true

-- a call in place leaves the run and an answer: what the call by value gives
abbrev pub after : {A : Type 0} → Run → Result A Refusal → After Run A
after x r = record { state = x; answer = r }
