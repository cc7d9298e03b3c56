-- Two worked cases of the gap list (02, P1). The statements only; the proof is `cases` of proofs/Cases. Assumes nothing.
use Rattle.std.specs.Prelude.{◌≡◌, true, [], ◌∷◌, set}
use Rattle.board.specs.Board.{fresh_board}
use Rattle.board.specs.Sound.{inside_sum}
use Rattle.run.specs.declared.Run.{Run}
use Rattle.run.specs.Run.{sound}
use Rattle.gaps.specs.Gaps.{gaps_of}
use Rattle.promise.specs.History.{enter, history}

-- a record that no history reaches: at width 4, exit 3 has dealt 5 numbers and no other exit any
unfoldable pub unreached : Run
unreached = record {
  width = 4;
  construction = 1;
  board = record {
    entered = 5;
    counts = set fresh_board.counts 3 5;
    toggles = fresh_board.toggles;
    places = fresh_board.places;
  };
}

pub record Cases : Type 0 where
  -- the only request is inside, and nothing is dealt: number 0 is outstanding
  pub only_one : gaps_of 2 (history 2 1 (enter 5 0 ∷ [])).run.board ≡ 0 ∷ []
  -- of a record that was not reached nothing is promised: this one is sound, and lists four numbers with none inside
  pub served : sound unreached ≡ true
  pub none_inside : inside_sum unreached.board ≡ 0
  pub four_listed : gaps_of 4 unreached.board ≡ 0 ∷ 1 ∷ 2 ∷ 4 ∷ []
