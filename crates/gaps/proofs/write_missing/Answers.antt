-- `gaps::write_missing` meets its contract. The invariant: the missing numbers passed are written, and counted. Assumes nothing.
use mathlib.Core.Path.{◌≡◌}
use native.Mathlib.Omega.{arith}
use Rattle.board.specs.Board.{count_at}
use Rattle.gaps.proofs.Counts.{walked_none, walked_room, walked_missing, walked_dealt}
use Rattle.gaps.proofs.write_missing.Goals as goal
use Rattle.gaps.proofs.write_missing.Goals.{then-counts-exit, else-counts-exit}

pub loop-v-init : goal.loop-v-init
loop-v-init c = walked_none

pub bounds-out-at : goal.bounds-out-at
unfolding count_at
bounds-out-at c = walked_room c.requires.2 c.loop-v.invariant c.loop-v-test.true c.if-counts-exit.true

pub loop-v-preserved : goal.loop-v-preserved
unfolding count_at
loop-v-preserved c =
    let room = c.requires.2 in
    let l = c.loop-v in
    elim c.if-counts-exit.branch [
      | then-counts-exit k ↦ rw (k.out-is, k.at-is) (walked_missing room l.invariant c.loop-v-test.true k.if-counts-exit.true)
      | else-counts-exit k ↦ rw (k.out-is, k.at-is) (walked_dealt room l.invariant c.loop-v-test.true k.if-counts-exit.false)
    ]

pub returns : goal.returns
returns c =
    let l = c.loop-v in
    let e : l.v ≡ c.args.n = omega arith in
    rw e at l.invariant.written
