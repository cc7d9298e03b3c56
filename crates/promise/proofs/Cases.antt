-- The definitions compute: the listing case of the document, in which 1 is dealt before 0. Assumes nothing.
use mathlib.Core.Path.{◌≡◌, refl}
use mathlib.Core.List.{[], ◌∷◌}
use Rattle.order.specs.Order.{first_of}
use Rattle.network.specs.Widths.{width_ok, construction_ok, open_no, levels, depth_of}
use Rattle.network.specs.Wiring.{feed_at, part, bitonic, place}
use Rattle.network.specs.Rows.{place_of}
use Rattle.board.specs.Board.{fresh_board, place_at, count_at, down_at}
use Rattle.board.specs.Sound.{all, sum_of, few_entered, places_ok, counts_beyond, toggles_beyond, dealt_sum, inside_sum, adds_up, sound_board}
use Rattle.moves.specs.Answer.{values_of}
use Rattle.moves.specs.Enter.{enter_no, entering, enter_with}
use Rattle.moves.specs.Turn.{turn_no, passing, dealing, turn_with}
use Rattle.run.specs.Run.{fresh, open_of, depth_in, sound, enter_of, feeds_of, turn_of}
use Rattle.promise.specs.History.{enter, turn, call_of, calls_of, calls_by, history}

listing : (history 2 1 (enter 5 0 ∷ enter 9 1 ∷ turn 9 ∷ turn 5 ∷ turn 5 ∷ turn 9 ∷ [])).deals
    ≡ record { token = 5; exit = 1; number = 1 } ∷ record { token = 9; exit = 0; number = 0 } ∷ []
unfolding
    history calls_of calls_by call_of open_of fresh depth_in sound enter_of feeds_of turn_of enter_no entering enter_with turn_no passing dealing
    turn_with values_of all sum_of few_entered places_ok counts_beyond toggles_beyond dealt_sum inside_sum adds_up sound_board fresh_board
    place_at count_at down_at place_of feed_at part bitonic place width_ok construction_ok open_no levels depth_of first_of
listing = refl
