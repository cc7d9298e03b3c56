-- Histories of the small cabinet (02, P6): enters, turns and polls from an opening, and what they tell. Each call is made by the very
-- definition that its contract cites. Definitions only. Assumes nothing.
use Rattle.std.specs.Prelude.{ℕ, ◌+◌, ◌≡◌, cond, List, [], ◌∷◌, ◌++◌, map, eqb}
use Rattle.rest.specs.Sum.{only}
use Rattle.moves.specs.Answer.{values_of}
use Rattle.promise.specs.History.{Call, enter, turn, Deal, deal_of}
use Rattle.small.specs.declared.Cabinet.{Cabinet}
use Rattle.small.specs.Small.{open_small, enter_small, turn_small, poll_small}

-- a call: an enter or a turn, or a poll of an exit
pub data SmallCall : Type 0 where
  call : Call → SmallCall
  poll : ℕ → SmallCall

-- what a call tells: a number dealt, or the yield of an exit's poll that was not refused
pub data Told : Type 0 where
  dealt : Deal → Told
  polled : ℕ → ℕ → Told

-- what comes of calls: the record after them, and what they told, in order
pub record SmallAfter : Type 0 where
  pub cabinet : Cabinet
  pub told : List Told

unfoldable pub small_call : Cabinet → SmallCall → SmallAfter
small_call x (call (enter t v)) = record { cabinet = (enter_small x t v).cabinet; told = [] }
small_call x (call (turn t)) = record { cabinet = (turn_small x t).cabinet; told = map dealt (deal_of t (values_of (turn_small x t).answer)) }
small_call x (poll i) =
    let p = poll_small x i in
    record { cabinet = p.cabinet; told = cond (eqb p.refusal 0) (polled i p.yielded ∷ []) [] }

unfoldable pub small_calls : Cabinet → List SmallCall → SmallAfter
small_calls x [] = record { cabinet = x; told = [] }
small_calls x (c ∷ rest) =
    let first = small_call x c in
    let then = small_calls first.cabinet rest in
    record { cabinet = then.cabinet; told = first.told ++ then.told }

unfoldable pub small_history : ℕ → ℕ → List SmallCall → SmallAfter
small_history w c calls = small_calls (open_small w c).cabinet calls

-- the enters and turns alone
unfoldable pub run_calls : List SmallCall → List Call
run_calls [] = []
run_calls (call c ∷ rest) = c ∷ run_calls rest
run_calls (poll i ∷ rest) = run_calls rest

-- the numbers dealt, and the sum of the yields of exit i
unfoldable pub deals_in : List Told → List Deal
deals_in [] = []
deals_in (dealt e ∷ rest) = e ∷ deals_in rest
deals_in (polled j y ∷ rest) = deals_in rest

unfoldable pub yields_at : ℕ → List Told → ℕ
yields_at i [] = 0
yields_at i (dealt e ∷ rest) = yields_at i rest
yields_at i (polled j y ∷ rest) = only j i y + yields_at i rest

-- how many numbers were dealt at exit i since the last poll of it, or since opening, where k were before
unfoldable pub since : ℕ → ℕ → List Told → ℕ
since i k [] = k
since i k (dealt e ∷ rest) = since i (k + only e.exit i 1) rest
since i k (polled j y ∷ rest) = since i (cond (eqb j i) 0 k) rest

-- P holds at each poll of exit i, of the numbers dealt there since the last and of the yield
unfoldable pub AtPolls : (ℕ → ℕ → Type 0) → ℕ → ℕ → List Told → Type 0
AtPolls P i k [] = Unit
AtPolls P i k (dealt e ∷ rest) = AtPolls P i (k + only e.exit i 1) rest
AtPolls P i k (polled j y ∷ rest) = (j ≡ i → P k y) × AtPolls P i (cond (eqb j i) 0 k) rest
