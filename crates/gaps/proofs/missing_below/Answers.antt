-- `gaps::missing_below` meets its contract. The invariant: the total is what the exits passed are short of, which is small.
-- Assumes nothing.
use mathlib.Core.Path.{◌≡◌, refl, sym, ap₂, ◌∙◌}
use Prim.Native.Nat.{◌+◌}
use native.Mathlib.Omega.{arith}
use native.Mathlib.Numerals.{add-one}
use Rattle.rest.specs.Sum.{sum}
use Rattle.board.specs.Board.{count_at}
use Rattle.gaps.specs.Counts.{of_counts}
use Rattle.gaps.proofs.Gaps.{length_gaps}
use Rattle.gaps.proofs.Counts.{share_small}
use Rattle.gaps.proofs.missing_below.Goals as goal

pub loop-i-init : goal.loop-i-init
unfolding sum
loop-i-init c = record { so_far = refl; small = omega arith }

pub overflow_add-total : goal.overflow_add-total
overflow_add-total c =
    let a = c.args in
    omega (arith, share_small a.n c.loop-i.i a.w, c.short_of-total.ensures)

pub loop-i-preserved : goal.loop-i-preserved
unfolding sum count_at
loop-i-preserved c =
    let l = c.loop-i in
    let a = c.args in
    record {
      so_far = rw add-one (ap₂ ◌+◌ l.invariant.so_far c.short_of-total.ensures);
      small = omega (arith, share_small a.n l.i a.w, c.short_of-total.ensures);
    }

pub returns : goal.returns
returns c =
    let l = c.loop-i in
    let a = c.args in
    let e : l.i ≡ a.w = omega arith in
    rw e at l.invariant.so_far ∙ sym (length_gaps a.w (of_counts a.counts.now) c.requires.0.some a.n)
