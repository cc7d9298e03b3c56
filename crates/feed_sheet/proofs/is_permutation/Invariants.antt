-- `feed_sheet::is_permutation` meets its contract. The invariant: behind what is not yet read, the bytes are below the length and
-- apart, and `seen` marks them. Assumes nothing.
use Rattle.std.specs.Iterator.Adapters.{rev_source}
use Rattle.std.specs.Slice.Iter.{iter_rest}
use Rattle.feed_sheet.proofs.Behind.{Behind}
use Rattle.feed_sheet.proofs.is_permutation.Given as goal

abbrev pub invariant-loop-b : goal.invariant-loop-b
invariant-loop-b l = Behind l.row l.seen (iter_rest (rev_source l.b-iterator))
