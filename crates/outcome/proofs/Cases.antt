-- Worked cases of running a schedule, computed. Assumes nothing.
use Prim.Native.Nat.{ℕ}
use mathlib.Core.Path.{◌≡◌, refl}
use mathlib.Core.List.{[], ◌∷◌, ◌++◌}
use Rattle.records.specs.declared.Record.TheVariants.{Number}
use Rattle.outcome.specs.Outcome.{Accepted, Refused}
use Rattle.order.specs.Order.{first_of}
use Rattle.network.specs.Widths.{width_ok, construction_ok, open_no, levels, depth_of}
use Rattle.network.specs.Wiring.{part, bitonic, place}
use Rattle.network.specs.Rows.{place_of}
use Rattle.board.specs.Board.{fresh_board, place_at, count_at, down_at}
use Rattle.board.specs.Sound.{all, sum_of, few_entered, places_ok, counts_beyond, toggles_beyond, dealt_sum, inside_sum, adds_up, sound_board}
use Rattle.moves.specs.Answer.{values_of}
use Rattle.moves.specs.Enter.{enter_no, entering, enter_with}
use Rattle.moves.specs.Turn.{turn_no, passing, dealing, turn_with}
use Rattle.run.specs.Run.{fresh, open_of, depth_in, sound, enter_of, feeds_of, turn_of}
use Rattle.records.specs.Fields.{spelt, bytes_in}
use Rattle.records.specs.Reading.{length_of, known, record_in, read_no, present_of, read_of}
use Rattle.records.specs.Writing.{size_of, bytes_of}
use Rattle.outcome.specs.Course.{at_start}
use Rattle.outcome.specs.Step.{report_of, close_no, phase_no, place_no, served_of, step_of}
use Rattle.outcome.specs.Schedule.{record_at, on_read, tell_from, tell}
use Rattle.outcome.specs.Whole.{settle, run_of}
use Rattle.outcome.specs.Case.{case_bytes}

-- the document's case is accepted: BITONIC[2], two entries, 24 bytes of reports
pub case_outcome : run_of case_bytes 24 ≡ Accepted 2 1 2 24
unfolding first_of width_ok construction_ok open_no levels depth_of part bitonic place place_of fresh_board place_at count_at down_at all sum_of few_entered places_ok counts_beyond toggles_beyond dealt_sum inside_sum adds_up sound_board values_of enter_no entering enter_with turn_no passing dealing turn_with fresh open_of depth_in sound enter_of feeds_of turn_of spelt bytes_in length_of known record_in read_no read_of size_of bytes_of at_start report_of close_no phase_no place_no served_of step_of record_at on_read tell_from tell settle run_of case_bytes
case_outcome = refl

-- it deals 1 to token 5 at exit 1, then 0 to token 9 at exit 0
pub case_reports : (tell case_bytes).reports ≡ bytes_of (Number 5 1 1) ++ bytes_of (Number 9 0 0)
unfolding first_of width_ok construction_ok open_no levels depth_of part bitonic place place_of fresh_board place_at count_at down_at all sum_of few_entered places_ok counts_beyond toggles_beyond dealt_sum inside_sum adds_up sound_board values_of enter_no entering enter_with turn_no passing dealing turn_with fresh open_of depth_in sound enter_of feeds_of turn_of spelt bytes_in length_of known record_in read_no read_of size_of bytes_of at_start report_of close_no phase_no place_no served_of step_of record_at on_read tell_from tell settle run_of case_bytes
case_reports = refl

pub empty_schedule : (room : ℕ) → run_of [] room ≡ Refused 14 0 0 0
unfolding tell_from tell settle run_of at_start record_at on_read
empty_schedule room = refl

pub three_bytes : (a b c room : ℕ) → run_of (a ∷ b ∷ c ∷ []) room ≡ Refused 11 0 0 3
unfolding tell_from tell settle run_of at_start record_at on_read read_of read_no present_of first_of
three_bytes a b c room = refl
