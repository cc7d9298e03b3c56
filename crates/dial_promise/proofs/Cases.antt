-- The definitions compute: at width 1 three numbers are dealt, with a poll after the second and one after the third; a poll of an
-- exit that is none tells nothing. Assumes nothing.
use mathlib.Core.Path.{◌≡◌, refl}
use mathlib.Core.List.{List, [], ◌∷◌}
use Rattle.order.specs.Order.{first_of}
use Rattle.network.specs.Widths.{width_ok, construction_ok, open_no, levels, depth_of}
use Rattle.board.specs.Board.{fresh_board, place_at, count_at}
use Rattle.board.specs.Sound.{all, sum_of, few_entered, places_ok, counts_beyond, toggles_beyond, dealt_sum, inside_sum, adds_up, sound_board}
use Rattle.moves.specs.Answer.{values_of}
use Rattle.moves.specs.Enter.{enter_no, entering, enter_with}
use Rattle.moves.specs.Turn.{turn_no, dealing, turn_with}
use Rattle.run.specs.Run.{fresh, open_of, depth_in, sound, enter_of, turn_of}
use Rattle.promise.specs.History.{enter, turn}
use Rattle.dials.specs.Dials.{advance_of, yield_of, poll_of}
use Rattle.dials.specs.Highest.{Number, past_at, past_below, highest_of}
use Rattle.small.specs.Small.{open_small, enter_small, dials_after, turn_small, poll_no, poll_small}
use Rattle.dial_promise.specs.Told.{SmallCall, call, poll, dealt, polled, small_call, small_calls, small_history}
use Rattle.dial_promise.specs.Promise.{sums_of}

calls : List SmallCall
calls = call (enter 7 0) ∷ call (turn 7) ∷ call (enter 8 0) ∷ call (turn 8) ∷ poll 0 ∷ poll 1 ∷ call (enter 7 0) ∷ call (turn 7) ∷ poll 0 ∷ []

three-dealt :
    ((small_history 1 1 calls).told
    ≡ dealt (record { token = 7; exit = 0; number = 0 }) ∷ dealt (record { token = 8; exit = 0; number = 1 }) ∷ polled 0 2
    ∷ dealt (record { token = 7; exit = 0; number = 2 }) ∷ polled 0 1 ∷ [])
    × (highest_of 1 (sums_of (small_history 1 1 calls).cabinet.dials) ≡ Number 2)
unfolding
    calls small_history small_calls small_call open_small enter_small dials_after turn_small poll_no poll_small advance_of yield_of poll_of open_of
    fresh depth_in sound enter_of turn_of enter_no entering enter_with turn_no dealing turn_with values_of all sum_of few_entered places_ok
    counts_beyond toggles_beyond dealt_sum inside_sum adds_up sound_board fresh_board place_at count_at width_ok construction_ok open_no levels
    depth_of first_of past_at past_below highest_of
three-dealt = (refl, refl)
