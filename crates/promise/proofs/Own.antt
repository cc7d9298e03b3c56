-- On whose turn a number is dealt: `own_turns`; and the pace of a token in a run that is reached. Assumes nothing.
use Prim.Native.Nat.{ℕ, ◌+◌, ◌≤◌, ◌<◌}
use mathlib.Core.Path.{◌≡◌, sym, ◌∙◌}
use mathlib.Core.Bool.{true}
use mathlib.Core.List.{List, ◌∷◌}
use Rattle.board.specs.Board.{place_at}
use Rattle.moves.specs.Enter.{at, enter_no}
use Rattle.run.specs.declared.Run.{Run}
use Rattle.run.specs.Run.{depth_in, enter_of}
use Rattle.run.proofs.Keeps.{enter_number}
use Rattle.promise.specs.History.{Call, enter, Deal, call_of, calls_of, dealt_to, turns_of}
use Rattle.promise.specs.Own.{Own, OwnTurns}
use Rattle.promise.proofs.Pace.{level_of, Paced, entered_stands, paced_calls, paced_dealt, paced_own}
use Rattle.promise.proofs.Reached.{Reached, reached_layered, reached_sound, call_on_board, calls_on, history_reached, history_depth}

-- an enter that is not refused is one that the board takes
pub enter_taken : {x : Run} {dealt : List Deal} → Reached x dealt → (t v : ℕ) → (enter_of x t v).refusal ≡ 0
    → enter_no true x.width x.board t v ≡ 0
enter_taken {x} r t v taken = rw (reached_sound r) at (sym (enter_number x t v) ∙ taken)

reached_own : {x : Run} {dealt : List Deal} → Reached x dealt → (t v : ℕ) (calls : List Call) → (enter_of x t v).refusal ≡ 0
    → Own (depth_in x) t calls (calls_of x (enter t v ∷ calls)).deals
reached_own r t v calls taken =
    rw (← calls_on r (enter t v ∷ calls)) at (paced_own (reached_layered r) r.keeping t v calls (enter_taken r t v taken))

-- where a token stands that has just entered
pub reached_stands : {x : Run} {dealt : List Deal} → Reached x dealt → (t v : ℕ) → (enter_of x t v).refusal ≡ 0
    → place_at (call_of x (enter t v)).run.board t ≡ at 0 v
reached_stands r t v taken =
    rw (← call_on_board r (enter t v)) at (entered_stands (reached_layered r) r.keeping t v (enter_taken r t v taken))

-- a token's pace in a run, and that turns enough deal
pub reached_paced : {x : Run} {dealt : List Deal} → Reached x dealt → (calls : List Call) (t : ℕ)
    → Paced (depth_in x) (place_at x.board t) (place_at (calls_of x calls).run.board t) (dealt_to t (calls_of x calls).deals) (turns_of t calls)
reached_paced r calls t = rw (← calls_on r calls) at (paced_calls (reached_layered r) calls r.keeping t)

pub reached_dealt : {x : Run} {dealt : List Deal} → Reached x dealt → (calls : List Call) (t : ℕ) → (place_at x.board t).inside ≡ true
    → depth_in x + 1 ≤ level_of (place_at x.board t) + turns_of t calls → 0 < dealt_to t (calls_of x calls).deals
reached_dealt r calls t i l = rw (← calls_on r calls) at (paced_dealt (reached_layered r) calls r.keeping t i l)

pub own_turns : OwnTurns
own_turns = record {
  holds = λ w c before t v calls ok taken.
      rw (history_depth w c ok before) at (reached_own (history_reached w c ok before) t v calls taken);
}
