-- A worked case of the trace, computed. Assumes nothing.
use mathlib.Core.Path.{◌≡◌}
use lib.Dec.{lit≤}
use Rattle.order.specs.Order.{first_of}
use Rattle.network.specs.Widths.{width_ok, construction_ok, open_no, levels, depth_of}
use Rattle.network.specs.Wiring.{part, bitonic, place}
use Rattle.network.specs.Rows.{place_of}
use Rattle.board.specs.Board.{fresh_board, place_at, count_at, down_at}
use Rattle.board.specs.Sound.{all, sum_of, few_entered, places_ok, counts_beyond, toggles_beyond, dealt_sum, inside_sum, adds_up, sound_board}
use Rattle.moves.specs.Enter.{enter_no, entering, enter_with}
use Rattle.moves.specs.Turn.{turn_no, passing, dealing, turn_with}
use Rattle.run.specs.Run.{fresh, open_of, depth_in, sound, enter_of, feeds_of, turn_of}
use Rattle.records.specs.Fields.{spelt}
use Rattle.records.specs.Reading.{length_of, known, record_in, read_no, read_of}
use Rattle.outcome.specs.Course.{at_start}
use Rattle.outcome.specs.Step.{served_of}
use Rattle.outcome.specs.Schedule.{record_at}
use Rattle.outcome.specs.Case.{case_bytes}
use Rattle.outcome.proofs.Cases.{case_outcome}
use Rattle.text.specs.Text.{letters}
use Rattle.text.specs.Numbers.{digits, decimal}
use Rattle.listing_text.specs.Lines.{name_of, network_line, rest_line}
use Rattle.listing_text.proofs.Told.{run_more}
use Rattle.trace_text.specs.Lines.{named, passed_line, dealt_line, turn_line, line_of, on_record, lines_from, turn_lines}
use Rattle.trace_text.specs.Trace.{accepted_text, text_of, trace_of}

-- the document's case: token 9 passes the one cell by the top outlet, then token 5 by the bottom one, and is dealt its number first
case_trace : trace_of case_bytes ≡ letters "network 2 bitonic\n9 layer 0 cell 0 outlet 0 wire 0\n5 layer 0 cell 0 outlet 1 wire 1\n5 exit 1 number 1\n9 exit 0 number 0\nrest 2\n"
unfolding first_of width_ok construction_ok open_no levels depth_of part bitonic place place_of fresh_board place_at count_at down_at all sum_of few_entered places_ok counts_beyond toggles_beyond dealt_sum inside_sum adds_up sound_board enter_no entering enter_with turn_no passing dealing turn_with fresh open_of depth_in sound enter_of feeds_of turn_of spelt length_of known record_in read_no read_of at_start served_of record_at case_bytes letters digits decimal name_of network_line rest_line named passed_line dealt_line turn_line line_of on_record lines_from turn_lines accepted_text text_of trace_of
case_trace = rw (run_more case_bytes 24 65536 2 1 2 24 (lit≤ tt) case_outcome)
