-- What the trace program writes for a schedule: as the listing, with a line for each turn in place of those of the reports.
-- Definitions only. Assumes nothing.
use Rattle.std.specs.Prelude.{List, ◌++◌, ℕ}
use Rattle.outcome.specs.Outcome.{Outcome, Accepted, Refused}
use Rattle.outcome.specs.Whole.{run_of}
use Rattle.listing_text.specs.Lines.{refused_line, network_line, rest_line}
use Rattle.trace_text.specs.Lines.{turn_lines}

-- the network, the turns in the order of the schedule, the entries
unfoldable pub accepted_text : ℕ → ℕ → ℕ → List ℕ → List ℕ
accepted_text w c e s = network_line w c ++ (turn_lines s ++ rest_line e)

unfoldable pub text_of : Outcome → List ℕ → List ℕ
text_of (Accepted w c e b) s = accepted_text w c e s
text_of (Refused k n at present) s = refused_line k n at

-- the schedule is judged whole first, with the room that the listing has
unfoldable pub trace_of : List ℕ → List ℕ
trace_of s = text_of (run_of s 65536) s
