-- A sheet that does not count (02, P3): two cells side by side. The statements only; the proof is `cases` of proofs/Cases.
-- Assumes nothing.
use Rattle.std.specs.Prelude.{◌≡◌, List, [], ◌∷◌, ℕ}
use Rattle.rest.specs.Share.{share}
use Rattle.board.specs.Board.{count_at}
use Rattle.board.specs.Sound.{inside_sum}
use Rattle.promise.specs.History.{Call, enter, turn}
use Rattle.feed_sheet.specs.Sheet.{feed_no}
use Rattle.feed_promise.specs.History.{feed_history}

-- width 4, depth 1: wires in order, and exits in order
abbrev pub side_by_side : List ℕ
side_by_side = 0 ∷ 1 ∷ 2 ∷ 3 ∷ 0 ∷ 1 ∷ 2 ∷ 3 ∷ []

-- three requests on wire 0, one after another
abbrev pub three_on_one : List Call
three_on_one = enter 0 0 ∷ turn 0 ∷ turn 0 ∷ enter 1 0 ∷ turn 1 ∷ turn 1 ∷ enter 2 0 ∷ turn 2 ∷ turn 2 ∷ []

pub record Cases : Type 0 where
  pub taken : feed_no 4 1 side_by_side ≡ 0
  pub at_rest : inside_sum (feed_history 4 1 side_by_side three_on_one).run.board ≡ 0
  -- the numbers dealt are 0, 1 and 4: 2 is dealt to nobody
  pub numbers : (feed_history 4 1 side_by_side three_on_one).deals
      ≡ record { token = 0; exit = 0; number = 0 } ∷ record { token = 1; exit = 1; number = 1 }
      ∷ record { token = 2; exit = 0; number = 4 } ∷ []
  -- exit 0 has dealt two, and its share of three is one
  pub count : count_at (feed_history 4 1 side_by_side three_on_one).run.board 0 ≡ 2
  pub its_share : share 3 0 4 ≡ 1
