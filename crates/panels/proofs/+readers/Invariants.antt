-- The readers of `panels` meet their contracts: a record is read by the reader of its kind, on the bytes behind its head, and a series or
-- a beside reads its members. The bytes get fewer from a record to what is behind its head, and not more from there to a member. The
-- invariant of either loop: the members read so far are the definition's, and their panel stands in the grid where it fits. The
-- loop's measure is the bytes left. Assumes nothing.
use Rattle.std.proofs.Common.{◌≡◌, ◌+◌, ◌*◌, length}
use Rattle.designs.specs.Members.{series, beside}
use Rattle.panels.proofs.Going.{Going}
use Rattle.panels.proofs.+readers.Given as goal

abbrev pub decreases-record_reader : goal.decreases-record_reader
decreases-record_reader l = 2 * length l.front.bytes.now

abbrev pub decreases-series_reader : goal.decreases-series_reader
decreases-series_reader l = 2 * length l.inner.bytes.now + 1

abbrev pub decreases-beside_reader : goal.decreases-beside_reader
decreases-beside_reader l = 2 * length l.inner.bytes.now + 1

abbrev pub invariant-series_reader-loop-rest : goal.invariant-series_reader-loop-rest
invariant-series_reader-loop-rest l =
    (l.rest.left ≡ l.inner.left) × Going series (λ p. p.depth) l.inner.left l.inner.at l.inner.bytes.now l.corner.row l.corner.col l.initial.grid l.grid l.rest.at l.rest.bytes.now l.sum

abbrev pub decreases-series_reader-loop-rest : goal.decreases-series_reader-loop-rest
decreases-series_reader-loop-rest l = length l.rest.bytes.now

abbrev pub invariant-beside_reader-loop-rest : goal.invariant-beside_reader-loop-rest
invariant-beside_reader-loop-rest l =
    (l.rest.left ≡ l.inner.left) × Going beside (λ p. p.width) l.inner.left l.inner.at l.inner.bytes.now l.corner.row l.corner.col l.initial.grid l.grid l.rest.at l.rest.bytes.now l.sum

abbrev pub decreases-beside_reader-loop-rest : goal.decreases-beside_reader-loop-rest
decreases-beside_reader-loop-rest l = length l.rest.bytes.now
