-- Demand 3, on whose turn a number is dealt. The statement only; the proof is `own_turns` of proofs/Own. Assumes nothing.
use Rattle.std.specs.Prelude.{◌≡◌, List, ◌∷◌, ℕ, ◌+◌, ◌<◌}
use Rattle.network.specs.Widths.{open_no, depth_of}
use Rattle.run.specs.Run.{enter_of}
use Rattle.promise.specs.History.{Call, enter, Deal, calls_of, history, dealt_to, turns_of}

-- Token t enters, and further calls follow, of whichever tokens and in whichever order; `deals` are the numbers dealt in all of them.
-- With depth d, it is dealt nothing while its own turns among them are fewer than d + 1, and by d + 1 of them one number: so it is
-- dealt on that turn.
pub record Own (d t : ℕ) (calls : List Call) (deals : List Deal) : Type 0 where
  pub not_before : turns_of t calls < d + 1 → dealt_to t deals ≡ 0
  pub then_dealt : turns_of t calls ≡ d + 1 → dealt_to t deals ≡ 1

-- whatever history came before, for each entry that is not refused
pub record OwnTurns : Type 0 where
  pub holds : (w c : ℕ) (before : List Call) (t v : ℕ) (calls : List Call) → open_no w c ≡ 0
      → (enter_of (history w c before).run t v).refusal ≡ 0
      → Own (depth_of w c) t calls (calls_of (history w c before).run (enter t v ∷ calls)).deals
