-- `gaps::missing_below` meets its contract. The invariant: the total is what the exits passed are short of, which is small.
-- Assumes nothing.
use mathlib.Core.Path.{◌≡◌}
use Prim.Native.Nat.{ℕ, ◌≤◌, ◌-◌, ◌*◌}
use Rattle.rest.specs.Sum.{sum}
use Rattle.rest.specs.Share.{share}
use Rattle.board.specs.declared.Board.{Board}
use Rattle.board.specs.Board.{count_at}
use Rattle.gaps.specs.Counts.{of_counts}
use Rattle.gaps.proofs.missing_below.Given as goal

pub record Summed (w : ℕ) (x : Board) (n total i : ℕ) : Type 0 where
  pub so_far : total ≡ sum i (λ k. share n k w - count_at x k)
  pub small : total ≤ i * 1000064

abbrev pub invariant-loop-i : goal.invariant-loop-i
invariant-loop-i l = Summed l.w (of_counts l.counts) l.n l.total l.i
