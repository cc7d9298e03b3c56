-- Two cells side by side do not count: the definitions compute. Assumes nothing.
use mathlib.Core.Path.{refl}
use Rattle.order.specs.Order.{first_of}
use Rattle.rest.specs.Share.{share}
use Rattle.board.specs.Board.{fresh_board, place_at, count_at, down_at}
use Rattle.board.specs.Sound.{all, sum_of, few_entered, places_ok, counts_beyond, toggles_beyond, dealt_sum, inside_sum, adds_up, sound_board}
use Rattle.moves.specs.Answer.{values_of}
use Rattle.moves.specs.Enter.{enter_no, entering, enter_with}
use Rattle.moves.specs.Turn.{turn_no, passing, dealing, turn_with}
use Rattle.promise.specs.History.{calls_by}
use Rattle.feed_sheet.specs.Limits.{among, distinct}
use Rattle.feed_sheet.specs.Sheet.{unpaired, fed_at, rows_ok, feed_no}
use Rattle.feeds.specs.Feeds.{fresh_feed, feed_open_of, feed_sound, feed_enter_of, feeds_of, exit_of, feed_turn_of}
use Rattle.feed_promise.specs.History.{feed_call_of, feed_history}
use Rattle.feed_promise.specs.Cases.{Cases}

pub cases : Cases
unfolding
    feed_history feed_call_of calls_by feed_open_of fresh_feed feed_sound feed_enter_of feeds_of exit_of feed_turn_of unpaired fed_at rows_ok feed_no
    among distinct enter_no entering enter_with turn_no passing dealing turn_with values_of all sum_of few_entered places_ok counts_beyond
    toggles_beyond dealt_sum inside_sum adds_up sound_board fresh_board place_at count_at down_at first_of share
cases = record { taken = refl; at_rest = refl; numbers = refl; count = refl; its_share = refl }
