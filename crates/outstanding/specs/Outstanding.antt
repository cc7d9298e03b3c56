-- What the gap list tells of every history (02, P1). The list is the one that the call's contract cites; the numbers dealt are those of
-- the history. The statements only; the proofs are `all_outstanding` and `all_to_come` of proofs/Outstanding. Assumes nothing.
use Rattle.std.specs.Prelude.{ℕ, ◌<◌, ◌≤◌, ◌≡◌, length}
use mathlib.Core.List.{List, [], Memᴰ}
use Rattle.network.specs.Widths.{open_no}
use Rattle.board.specs.Sound.{inside_sum}
use Rattle.run.specs.declared.Run.{Run}
use Rattle.run.specs.Run.{sound}
use Rattle.gaps.specs.Gaps.{gaps_of, gaps_no}
use Rattle.promise.specs.History.{Call, Deal, calls_of, history, times}

-- A run, and the numbers dealt on the way to it.
pub record Outstanding (x : Run) (deals : List Deal) : Type 0 where
  -- its length is the count of tokens inside
  pub as_many : length (gaps_of x.width x.board) ≡ inside_sum x.board
  -- a number stands in it exactly when it is below entered and was dealt to nobody
  pub listed : (v : ℕ) → v < x.board.entered → times v deals ≡ 0 → Memᴰ v (gaps_of x.width x.board)
  pub no_other : (v : ℕ) → Memᴰ v (gaps_of x.width x.board) → (v < x.board.entered) × (times v deals ≡ 0)
  -- with none inside it is empty
  pub at_rest : inside_sum x.board ≡ 0 → gaps_of x.width x.board ≡ []
  -- so the call is not refused where it is lent a place for each token inside
  pub room : (n : ℕ) → inside_sum x.board ≤ n → gaps_no (sound x) x.width x.board n ≡ 0

pub record AllOutstanding : Type 0 where
  pub holds : (w c : ℕ) (calls : List Call) → open_no w c ≡ 0 → Outstanding (history w c calls).run (history w c calls).deals

-- Beyond the request: the list is what is still to come. Further calls follow on run x by which no request enters: turns in any
-- order, and refused calls among them.
pub record ToCome (x : Run) (calls : List Call) : Type 0 where
  -- every number that they deal stands in the list
  pub of_the_list : (calls_of x calls).run.board.entered ≡ x.board.entered
      → (v : ℕ) → 0 < times v (calls_of x calls).deals → Memᴰ v (gaps_of x.width x.board)
  -- and when none is inside after them, every number of the list was dealt by them, once
  pub whole : (calls_of x calls).run.board.entered ≡ x.board.entered → inside_sum (calls_of x calls).run.board ≡ 0
      → (v : ℕ) → Memᴰ v (gaps_of x.width x.board) → times v (calls_of x calls).deals ≡ 1

pub record AllToCome : Type 0 where
  pub holds : (w c : ℕ) (before calls : List Call) → open_no w c ≡ 0 → ToCome (history w c before).run calls
