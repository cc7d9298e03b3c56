-- What is promised of every history over one feed sheet (02, P3), once over all sheets, widths, depths and lists of calls. Neither
-- demand 3 nor the gap list's length is: a sheet need not count. The statements only; the proofs are of proofs/Promise.
-- Assumes nothing.
use Rattle.std.specs.Prelude.{◌≡◌, List, ◌∷◌, ℕ, ◌+◌, ◌/◌, ◌<◌}
use Rattle.rest.specs.Sum.{sum}
use Rattle.rest.specs.Flow.{csum, flow}
use Rattle.board.specs.declared.Board.{Board}
use Rattle.board.specs.Board.{count_at}
use Rattle.board.specs.Sound.{inside_sum}
use Rattle.promise.specs.History.{Call, enter, entered_on, calls_by}
use Rattle.promise.specs.Own.{Own}
use Rattle.feed_sheet.specs.Sheet.{fed_at, feed_no}
use Rattle.feeds.specs.Feeds.{feed_enter_of}
use Rattle.feed_promise.specs.History.{feed_call_of, feed_history}

-- the exit counts at rest, of x v entries on each wire v: through the layers, and then by the exit row, row d
unfoldable pub rest_counts : ℕ → ℕ → List ℕ → (ℕ → ℕ) → ℕ → ℕ
rest_counts w d sheet x i = csum w (fed_at w sheet d) (flow w (λ L v. fed_at w sheet L v / 2) x d) i

-- at rest the counts are those of the entries
pub record AtRest : Type 0 where
  pub holds : (w d : ℕ) (sheet : List ℕ) (calls : List Call) → feed_no w d sheet ≡ 0
      → inside_sum (feed_history w d sheet calls).run.board ≡ 0
      → (i : ℕ) → i < w
      → count_at (feed_history w d sheet calls).run.board i
      ≡ rest_counts w d sheet (λ v. entered_on v (feed_history w d sheet calls).entries) i

-- So they depend only on how many entered at each wire: two histories, whatever their orders, that entered as many at each and are
-- both at rest have equal counts.
pub record OnlyEntries : Type 0 where
  pub holds : (w d : ℕ) (sheet : List ℕ) (calls others : List Call) → feed_no w d sheet ≡ 0
      → inside_sum (feed_history w d sheet calls).run.board ≡ 0 → inside_sum (feed_history w d sheet others).run.board ≡ 0
      → ((v : ℕ) → v < w → entered_on v (feed_history w d sheet calls).entries ≡ entered_on v (feed_history w d sheet others).entries)
      → (i : ℕ) → i < w
      → count_at (feed_history w d sheet calls).run.board i ≡ count_at (feed_history w d sheet others).run.board i

-- no token is lost: those that entered are inside, or counted at an exit; so at rest the counts add up to entered
pub record Whole (w : ℕ) (x : Board) (entries : List ℕ) : Type 0 where
  pub adds : sum w (count_at x) + inside_sum x ≡ x.entered
  pub at_rest : inside_sum x ≡ 0 → sum w (count_at x) ≡ x.entered
  pub entered : sum w (λ v. entered_on v entries) ≡ x.entered

pub record NoneLost : Type 0 where
  pub holds : (w d : ℕ) (sheet : List ℕ) (calls : List Call) → feed_no w d sheet ≡ 0
      → Whole w (feed_history w d sheet calls).run.board (feed_history w d sheet calls).entries

-- a request is out on its own turn d + 1, whatever history came before and whatever the others do
pub record OwnTurns : Type 0 where
  pub holds : (w d : ℕ) (sheet : List ℕ) (before : List Call) (t v : ℕ) (calls : List Call) → feed_no w d sheet ≡ 0
      → (feed_enter_of sheet (feed_history w d sheet before).run t v).refusal ≡ 0
      → Own d t calls (calls_by (feed_call_of sheet) (feed_history w d sheet before).run (enter t v ∷ calls)).deals
