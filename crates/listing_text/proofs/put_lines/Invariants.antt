-- `listing_text::put_lines` meets its contract. The loop's invariant: the lines of the reports left, put where the text has got to, give
-- the whole. Assumes nothing.
use Rattle.std.specs.Slice.Iter.{chunks_exact_rest, chunks_exact_size}
use Rattle.listing_text.proofs.Lines.{Going}
use Rattle.listing_text.proofs.put_lines.Given as goal

abbrev pub invariant-loop-report : goal.invariant-loop-report
invariant-loop-report l = Going l.reports l.at l.initial.out l.next (chunks_exact_size l.report-iterator) (chunks_exact_rest l.report-iterator) l.out
