-- What else holds of every history (000, sections 2 and 5). The statements only; the proofs are `true_counts`, `one_by_one`,
-- `few_gaps` and `nonblocking` of proofs/Further. Assumes nothing.
use Rattle.std.specs.Prelude.{◌≡◌, true, List, [], ◌∷◌, ℕ, ◌+◌, ◌-◌, ◌*◌, ◌%◌, ◌<◌, ◌≤◌}
use Rattle.network.specs.Widths.{open_no, depth_of}
use Rattle.rest.specs.Sum.{sum}
use Rattle.board.specs.declared.Board.{Board}
use Rattle.board.specs.Board.{place_at, count_at}
use Rattle.board.specs.Sound.{inside_sum}
use Rattle.run.specs.declared.Run.{Run}
use Rattle.run.specs.Run.{enter_of}
use Rattle.promise.specs.History.{Call, enter, Deal, calls_of, history, times, dealt_to, dealt_at, turns_of}

-- ---- the record's counts are true: exit i has dealt as many numbers as its count says
pub record TrueCounts : Type 0 where
  pub holds : (w c : ℕ) (calls : List Call) (i : ℕ) → open_no w c ≡ 0 → i < w
      → count_at (history w c calls).run.board i ≡ dealt_at i (history w c calls).deals

-- ---- one after another
-- A request enters run x, where none is inside, and further calls follow, after which none is inside and no other has entered.
-- Then one number is dealt: with m entered before it, the number m on exit m mod w. So the first is dealt 0 on exit 0.
pub record NextNumber (w : ℕ) (x : Run) (t v : ℕ) (calls : List Call) : Type 0 where
  pub dealt : inside_sum x.board ≡ 0 → (enter_of x t v).refusal ≡ 0
      → inside_sum (calls_of x (enter t v ∷ calls)).run.board ≡ 0
      → (calls_of x (enter t v ∷ calls)).run.board.entered ≡ x.board.entered + 1
      → (calls_of x (enter t v ∷ calls)).deals
      ≡ record { token = t; exit = x.board.entered % w; number = x.board.entered } ∷ []

pub record OneByOne : Type 0 where
  pub holds : (w c : ℕ) (before : List Call) (t v : ℕ) (calls : List Call) → open_no w c ≡ 0
      → NextNumber w (history w c before).run t v calls

-- ---- the gaps (000, Lemma 5.1)
-- how many numbers below n were not dealt
unfoldable pub undealt : ℕ → List Deal → ℕ
undealt n deals = sum n (λ v. 1 - times v deals)

-- Below a number h that was dealt, the highest or any other: at most as many are missing as requests are inside, and each that is
-- missing is at least h - w · inside. Nearer, as 000 has it: at least h - w for each that is missing.
pub record Gaps (w h : ℕ) (x : Board) (deals : List Deal) : Type 0 where
  pub few : undealt h deals ≤ inside_sum x
  pub near : (v : ℕ) → v < h → times v deals ≡ 0 → h - w * inside_sum x ≤ v
  pub nearer : (v : ℕ) → v < h → times v deals ≡ 0 → h - w * undealt h deals ≤ v

pub record FewGaps : Type 0 where
  pub holds : (w c : ℕ) (calls : List Call) (h : ℕ) → open_no w c ≡ 0 → 0 < times h (history w c calls).deals
      → Gaps w h (history w c calls).run.board (history w c calls).deals

-- ---- nonblocking
-- A token inside is dealt its number once its level and its further turns come to depth + 1, whatever the others do. Nothing is
-- asked of them: they may never move again.
pub record Nonblocking : Type 0 where
  pub holds : (w c : ℕ) (before : List Call) (t : ℕ) (calls : List Call) → open_no w c ≡ 0
      → (place_at (history w c before).run.board t).inside ≡ true
      → depth_of w c + 1 ≤ (place_at (history w c before).run.board t).level + turns_of t calls
      → 0 < dealt_to t (calls_of (history w c before).run calls).deals
