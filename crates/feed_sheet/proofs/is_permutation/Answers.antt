-- `feed_sheet::is_permutation` meets its contract. The invariant: behind what is not yet read, the bytes are below the length and
-- apart, and `seen` marks them. Assumes nothing.
use Rattle.std.proofs.Common.{arith}
use Rattle.feed_sheet.proofs.Behind.{behind_none, too_high, twice, behind_more, behind_all}
use Rattle.feed_sheet.proofs.is_permutation.Goals as goal
use Rattle.feed_sheet.proofs.is_permutation.Goals.{then-row-place-via-then-row-place, then-row-place-via-else-row-place+then-seen-place}

pub loop-b-init : goal.loop-b-init
loop-b-init c = behind_none (rw (c.into_iter-b-iterator.ensures.into_iter_gives, c.rev-b-items.ensures.source) c.iter.ensures.rest)

pub returns-then-row-place : goal.returns-then-row-place
returns-then-row-place c =
    elim c.then-row-place.branch [
      | then-row-place-via-then-row-place w ↦ too_high c.loop-b.invariant _ _ c.in-Some.ensures.steps (rw c.from-place.ensures at w.if-row-place.true)
      | then-row-place-via-else-row-place+then-seen-place w ↦
          twice c.loop-b.invariant _ _ c.in-Some.ensures.steps (λ i. omega (arith, c.type_inv.row i))
          (rw c.from-place.ensures at w.if-row-place.false) (rw c.from-place.ensures at w.if-seen-place.true)
    ]

pub loop-b-preserved : goal.loop-b-preserved
loop-b-preserved c =
    rw c.from-place.ensures
    (behind_more c.loop-b.invariant _ _ c.in-Some.ensures.steps (λ i. omega (arith, c.type_inv.row i))
    (rw c.from-place.ensures at c.if-row-place.false) (rw c.from-place.ensures at c.if-seen-place.false))

pub returns : goal.returns
returns c = behind_all _ c.loop-b.invariant c.in-None.ensures.steps.0
