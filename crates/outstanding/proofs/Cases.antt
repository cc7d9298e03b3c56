-- The worked cases, by computing: `cases`. Assumes nothing.
use mathlib.Core.Path.{refl}
use Rattle.order.specs.Order.{first_of}
use Rattle.network.specs.Widths.{width_ok, construction_ok, open_no, levels, depth_of}
use Rattle.board.specs.Board.{fresh_board, place_at, count_at}
use Rattle.board.specs.Sound.{all, sum_of, few_entered, places_ok, counts_beyond, toggles_beyond, dealt_sum, inside_sum, adds_up, sound_board}
use Rattle.moves.specs.Enter.{enter_no, entering, enter_with}
use Rattle.run.specs.Run.{fresh, open_of, depth_in, sound, enter_of}
use Rattle.gaps.specs.Gaps.{missing, gaps_below, gaps_of}
use Rattle.promise.specs.History.{call_of, calls_of, calls_by, history}
use Rattle.outstanding.specs.Cases.{unreached, Cases}

pub cases : Cases
unfolding
    unreached gaps_of gaps_below missing history calls_of calls_by call_of open_of fresh depth_in sound enter_of enter_no entering enter_with all sum_of
    few_entered places_ok counts_beyond toggles_beyond dealt_sum inside_sum adds_up sound_board fresh_board place_at count_at width_ok
    construction_ok open_no levels depth_of first_of
cases = record { only_one = refl; served = refl; none_inside = refl; four_listed = refl }
