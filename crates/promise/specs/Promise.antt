-- Demand 3: what is promised of every history, at every moment of it. It is read off the record's own counts, places and
-- entered, and off the numbers dealt. The statement only; the proof is `demand_3` of proofs/Promise. Assumes nothing.
use Rattle.std.specs.Prelude.{◌≡◌, List, ℕ, ◌-◌, ◌<◌, ◌≤◌}
use Rattle.network.specs.Widths.{open_no}
use Rattle.rest.specs.Sum.{sum}
use Rattle.rest.specs.Share.{share}
use Rattle.board.specs.declared.Board.{Board}
use Rattle.board.specs.Board.{count_at}
use Rattle.board.specs.Sound.{inside_sum}
use Rattle.promise.specs.History.{Call, Deal, history, times}

-- With m entered, the share of exit i is (m - i)/w rounded up.
pub record Promise (w : ℕ) (x : Board) (deals : List Deal) : Type 0 where
  -- each exit has dealt at most its share
  pub at_most : (i : ℕ) → i < w → count_at x i ≤ share x.entered i w
  -- what the exits are short of their shares adds up to the requests inside
  pub shortfalls : sum w (λ i. share x.entered i w - count_at x i) ≡ inside_sum x
  -- no number is dealt twice
  pub once : (v : ℕ) → times v deals ≤ 1
  -- each number dealt is below m
  pub below : (v : ℕ) → 0 < times v deals → v < x.entered
  -- with none inside, exactly 0 to m - 1 have been dealt
  pub at_rest : inside_sum x ≡ 0 → (v : ℕ) → v < x.entered → times v deals ≡ 1

-- both constructions, every allowed width, every list of calls
pub record Demand3 : Type 0 where
  pub holds : (w c : ℕ) (calls : List Call) → open_no w c ≡ 0
      → Promise w (history w c calls).run.board (history w c calls).deals
