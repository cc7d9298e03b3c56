-- Histories (01, "A run"): a list of calls from an opening, and the numbers dealt on the way. Each call is made by the very
-- definition that its contract cites. Definitions only. Assumes nothing.
use Rattle.std.specs.Prelude.{ℕ, ◌+◌, cond, List, [], ◌∷◌, ◌++◌, eqb}
use Rattle.rest.specs.Sum.{only}
use Rattle.board.specs.Sound.{sum_of}
use Rattle.moves.specs.Answer.{Values, values_of}
use Rattle.run.specs.declared.Run.{Run}
use Rattle.run.specs.Run.{open_of, enter_of, turn_of}

-- a call: enter, with token and wire, or a turn, with token
pub data Call : Type 0 where
  enter : ℕ → ℕ → Call
  turn : ℕ → Call

-- a number dealt: to which token, and at which exit
pub record Deal : Type 0 where
  pub token : ℕ
  pub exit : ℕ
  pub number : ℕ

-- what comes of calls on a record: the record after them, the wires on which tokens entered and the numbers dealt, each in order
pub record After (R : Type 0) : Type 0 where
  pub run : R
  pub entries : List ℕ
  pub deals : List Deal

-- the wire of an enter that was not refused
abbrev pub entry_of : ℕ → ℕ → List ℕ
entry_of number v = cond (eqb number 0) (v ∷ []) []

-- the number that a turn of token t dealt, if it dealt one, as the values of its answer say
abbrev pub deal_of : ℕ → Values → List Deal
deal_of t a = cond a.dealt (record { token = t; exit = a.exit; number = a.number } ∷ []) []

-- one call. That a refused call changes nothing is part of `enter_of` and `turn_of`.
unfoldable pub call_of : Run → Call → After Run
call_of x (enter t v) = record { run = (enter_of x t v).run; entries = entry_of (enter_of x t v).refusal v; deals = [] }
call_of x (turn t) = record { run = (turn_of x t).run; entries = []; deals = deal_of t (values_of (turn_of x t).answer) }

-- calls one after another, each made by `step`
unfoldable pub calls_by : {R : Type 0} → (R → Call → After R) → R → List Call → After R
calls_by step x [] = record { run = x; entries = []; deals = [] }
calls_by step x (call ∷ rest) =
    let first = step x call in
    let then = calls_by step first.run rest in
    record { run = then.run; entries = first.entries ++ then.entries; deals = first.deals ++ then.deals }

unfoldable pub calls_of : Run → List Call → After Run
calls_of x calls = calls_by call_of x calls

-- calls from the opening of width w and construction c
unfoldable pub history : ℕ → ℕ → List Call → After Run
history w c calls = calls_of (open_of w c).run calls

-- how many of the entries were on wire v
unfoldable pub entered_on : ℕ → List ℕ → ℕ
entered_on v entries = sum_of (λ u. only u v 1) entries

-- how often the number v was dealt
unfoldable pub times : ℕ → List Deal → ℕ
times v deals = sum_of (λ e. only e.number v 1) deals

-- how many numbers were dealt to token t, and how many at exit i
unfoldable pub dealt_to : ℕ → List Deal → ℕ
dealt_to t deals = sum_of (λ e. only e.token t 1) deals

unfoldable pub dealt_at : ℕ → List Deal → ℕ
dealt_at i deals = sum_of (λ e. only e.exit i 1) deals

-- how many of the calls are turns of token t
unfoldable pub turns_of : ℕ → List Call → ℕ
turns_of t [] = 0
turns_of t (enter u v ∷ rest) = turns_of t rest
turns_of t (turn u ∷ rest) = only u t 1 + turns_of t rest
