-- The small facts, computed. Assumes nothing.
use mathlib.Core.Path.{refl}
use Rattle.order.specs.Order.{first_of}
use Rattle.network.specs.Widths.{width_ok, construction_ok, open_no, levels, depth_of}
use Rattle.network.specs.Wiring.{feed_at, part, bitonic, periodic, place}
use Rattle.network.specs.Rows.{tabulate, rows, place_of, row_of, sheet_of}
use Rattle.rest.specs.Share.{share}
use Rattle.rest.proofs.Share.{share_zero}
use Rattle.board.specs.Board.{fresh_board, place_at, count_at, down_at}
use Rattle.board.specs.Sound.{all, sum_of, few_entered, places_ok, counts_beyond, toggles_beyond, dealt_sum, inside_sum, adds_up, sound_board}
use Rattle.moves.specs.Answer.{values_of}
use Rattle.moves.specs.Enter.{enter_no, entering, enter_with}
use Rattle.moves.specs.Turn.{turn_no, passing, dealing, turn_with}
use Rattle.run.specs.Run.{fresh, open_of, depth_in, sound, enter_of, feeds_of, turn_of}
use Rattle.outcome.proofs.Cases.{empty_schedule, three_bytes}
use Rattle.listing_text.proofs.Cases.{case_listing}
use Rattle.promise.specs.History.{call_of, calls_of, calls_by, history}
use Rattle.facts.specs.Facts.{Facts}

pub facts : Facts
unfolding first_of width_ok construction_ok open_no sheet_of row_of rows tabulate place_of place bitonic periodic part feed_at depth_of levels share fresh_board place_at count_at down_at all sum_of few_entered places_ok counts_beyond toggles_beyond dealt_sum inside_sum adds_up sound_board values_of enter_no entering enter_with turn_no passing dealing turn_with fresh open_of depth_in sound enter_of feeds_of turn_of call_of calls_of calls_by history
facts =
    record {
      one = refl;
      two = refl;
      three = refl;
      four = refl;
      five = refl;
      six = (refl, refl, refl, refl);
      seven = refl;
      eight = case_listing;
      nine = (λ w i pos. share_zero w pos i, refl, refl, refl, refl);
      ten = (empty_schedule, three_bytes);
      eleven = (refl, refl, refl);
    }
