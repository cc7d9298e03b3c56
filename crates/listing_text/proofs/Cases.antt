-- Worked cases of the listing: those of the schedule give the outcome and the reports, and the text is computed. Assumes nothing.
use mathlib.Core.Path.{◌≡◌}
use mathlib.Core.List.{[]}
use lib.Dec.{lit≤}
use Rattle.records.specs.Fields.{spelt, bytes_in}
use Rattle.records.specs.Reading.{length_of}
use Rattle.records.specs.Writing.{size_of, bytes_of}
use Rattle.outcome.specs.Case.{case_bytes}
use Rattle.outcome.proofs.Cases.{case_outcome, case_reports, empty_schedule}
use Rattle.text.specs.Text.{letters}
use Rattle.text.specs.Numbers.{digits, decimal}
use Rattle.listing_text.specs.Lines.{three, refused_line, name_of, network_line, report_lines, rest_line}
use Rattle.listing_text.specs.Listing.{accepted_text, text_of, listing_of}
use Rattle.listing_text.proofs.Told.{run_more}

-- the document's case
pub case_listing : listing_of case_bytes ≡ letters "network 2 bitonic\n5 1 1\n9 0 0\nrest 2\n"
unfolding spelt bytes_in length_of size_of bytes_of letters digits decimal three refused_line name_of network_line report_lines rest_line accepted_text text_of listing_of
case_listing = rw (run_more case_bytes 24 65536 2 1 2 24 (lit≤ tt) case_outcome, case_reports)

-- the empty schedule
empty_listing : listing_of [] ≡ letters "refused 14 0 0\n"
unfolding spelt bytes_in length_of size_of bytes_of letters digits decimal three refused_line name_of network_line report_lines rest_line accepted_text text_of listing_of
empty_listing = rw (empty_schedule 65536)
