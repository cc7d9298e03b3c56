-- What is promised of every history of the small cabinet (02, P6). The statements only; the proofs are `run_alone`, `all_yields` and
-- `all_highest` of proofs/Promise. Assumes nothing.
use Rattle.std.specs.Prelude.{ℕ, ◌%◌, ◌≤◌, ◌<◌, ◌≡◌, true, false, List, [], map}
use Rattle.network.specs.Widths.{open_no}
use Rattle.board.specs.Board.{count_at}
use Rattle.promise.specs.History.{Deal, history, times}
use Rattle.promise.specs.Promise.{Promise}
use Rattle.dials.specs.declared.Dial.{Dial}
use Rattle.dials.specs.Dials.{round, sum_round}
use Rattle.dials.specs.Highest.{Values, highest_of, values_of}
use Rattle.small.specs.declared.Cabinet.{Cabinet}
use Rattle.small.specs.Small.{dial_at, poll_small}
use Rattle.dial_promise.specs.Told.{SmallCall, Told, small_history, run_calls, deals_in, yields_at, since, AtPolls}

-- ---- the run inside
-- It is the run of the enters and turns alone, and so are the numbers dealt: all that is promised of a run's histories holds of it, on
-- the counts and never on dials; demand 3 in so many words.
pub record RunAlone : Type 0 where
  pub run : (w c : ℕ) (calls : List SmallCall) → (small_history w c calls).cabinet.run ≡ (history w c (run_calls calls)).run
  pub deals : (w c : ℕ) (calls : List SmallCall) → deals_in (small_history w c calls).told ≡ (history w c (run_calls calls)).deals
  pub demand_3 : (w c : ℕ) (calls : List SmallCall) → open_no w c ≡ 0
      → Promise w (small_history w c calls).cabinet.run.board (deals_in (small_history w c calls).told)

-- ---- the yields of exit i
-- fewer than 65,536 numbers were dealt there between polls of it
abbrev pub Paced : ℕ → List Told → Type 0
Paced i told = AtPolls (λ k y. k < round) i 0 told

pub record Yields (i : ℕ) (x : Cabinet) (told : List Told) : Type 0 where
  -- a poll of it is not refused
  pub served : (poll_small x i).refusal ≡ 0
  -- each yield is the numbers dealt there since the last poll, taken round the zero
  pub taken_round : AtPolls (λ k y. y ≡ k % round) i 0 told
  -- and these themselves, while they are fewer than 65,536
  pub exact : Paced i told → AtPolls (λ k y. y ≡ k) i 0 told
  -- then, with nothing dealt there since the last poll, as right after one, the yields since opening add up to the exit's count
  pub count : Paced i told → since i 0 told ≡ 0 → yields_at i told ≡ count_at x.run.board i
  -- the dial keeps their sum, which goes round at 2^32
  pub sum : (dial_at x.dials i).sum ≡ yields_at i told % sum_round

pub record AllYields : Type 0 where
  pub holds : (w c : ℕ) (calls : List SmallCall) (i : ℕ) → open_no w c ≡ 0 → i < w
      → Yields i (small_history w c calls).cabinet (small_history w c calls).told

-- ---- the highest number dealt
pub record HighestDealt (deals : List Deal) (a : Values) : Type 0 where
  pub carried_out : a.refusal ≡ 0
  pub dealt : a.some ≡ true → 0 < times a.number deals
  pub highest : (v : ℕ) → 0 < times v deals → (a.some ≡ true) × (v ≤ a.number)
  -- none exactly where nothing was dealt
  pub none : a.some ≡ false → deals ≡ []
  pub nothing : deals ≡ [] → a.some ≡ false

abbrev pub sums_of : List Dial → List ℕ
sums_of ds = map (λ d. d.sum) ds

-- where every exit was paced, and none has dealt since its last poll
pub record AllHighest : Type 0 where
  pub holds : (w c : ℕ) (calls : List SmallCall) → open_no w c ≡ 0
      → ((i : ℕ) → i < w → Paced i (small_history w c calls).told × (since i 0 (small_history w c calls).told ≡ 0))
      → HighestDealt (deals_in (small_history w c calls).told) (values_of (highest_of w (sums_of (small_history w c calls).cabinet.dials)))
