-- The run inside a small cabinet is the run of the enters and turns alone, and the numbers dealt are theirs. In order: a run's calls one
-- after another; a call; calls; a history. Assumes nothing.
use Prim.Native.Nat.{ℕ}
use mathlib.Core.Path.{◌≡◌, refl, ap, sym, ◌∙◌}
use mathlib.Core.Bool.{Bool, true, false, cond}
use mathlib.Core.List.{List, [], ◌∷◌, ◌++◌, map}
use lib.Dec.{eqb}
use Rattle.moves.specs.Answer.{values_of}
use Rattle.run.specs.declared.Run.{Run}
use Rattle.run.specs.Run.{turn_of}
use Rattle.promise.specs.History.{Call, enter, turn, Deal, deal_of, call_of, calls_of, calls_by, history}
use Rattle.small.specs.declared.Cabinet.{Cabinet}
use Rattle.small.specs.Small.{open_small, enter_small, turn_small, poll_small}
use Rattle.dial_promise.specs.Told.{SmallCall, call, poll, dealt, polled, small_call, small_calls, small_history, run_calls, deals_in}
use Rattle.dial_promise.proofs.Log.{deals_in_append}

-- ---- a run's calls
run_cons : (x : Run) (c : Call) (rest : List Call) → (calls_of x (c ∷ rest)).run ≡ (calls_of (call_of x c).run rest).run
unfolding calls_of calls_by
run_cons x c rest = refl

deals_cons : (x : Run) (c : Call) (rest : List Call) → (calls_of x (c ∷ rest)).deals ≡ (call_of x c).deals ++ (calls_of (call_of x c).run rest).deals
unfolding calls_of calls_by
deals_cons x c rest = refl

-- ---- a call
deals_in_map : (l : List Deal) → deals_in (map dealt l) ≡ l
unfolding deals_in
deals_in_map [] = refl
deals_in_map (e ∷ l) = ap (λ m. e ∷ m) (deals_in_map l)

run_call : (x : Cabinet) (c : Call) → (small_call x (call c)).cabinet.run ≡ (call_of x.run c).run
unfolding small_call enter_small turn_small call_of
run_call x (enter t v) = refl
run_call x (turn t) = refl

deals_call : (x : Cabinet) (c : Call) → deals_in (small_call x (call c)).told ≡ (call_of x.run c).deals
unfolding small_call turn_small call_of deals_in
deals_call x (enter t v) = refl
deals_call x (turn t) = deals_in_map (deal_of t (values_of (turn_of x.run t).answer))

-- a poll deals nothing, and the run stays
run_poll : (x : Cabinet) (i : ℕ) → (small_call x (poll i)).cabinet.run ≡ x.run
unfolding small_call poll_small
run_poll x i = refl

deals_poll : (x : Cabinet) (i : ℕ) → deals_in (small_call x (poll i)).told ≡ []
unfolding small_call poll_small deals_in
deals_poll x i = by (eqb (poll_small x i).refusal 0)
  where
    by : (b : Bool) → deals_in (cond b (polled i (poll_small x i).yielded ∷ []) []) ≡ []
    by true = refl
    by false = refl

-- ---- calls
run_calls_lem : (calls : List SmallCall) (x : Cabinet) → (small_calls x calls).cabinet.run ≡ (calls_of x.run (run_calls calls)).run
unfolding small_calls run_calls calls_of calls_by
run_calls_lem [] x = refl
run_calls_lem (call c ∷ rest) x =
    run_calls_lem rest (small_call x (call c)).cabinet ∙ ap (λ y. (calls_of y (run_calls rest)).run) (run_call x c)
    ∙ sym (run_cons x.run c (run_calls rest))
run_calls_lem (poll i ∷ rest) x =
    run_calls_lem rest (small_call x (poll i)).cabinet ∙ ap (λ y. (calls_of y (run_calls rest)).run) (run_poll x i)

deals_calls : (calls : List SmallCall) (x : Cabinet) → deals_in (small_calls x calls).told ≡ (calls_of x.run (run_calls calls)).deals
unfolding small_calls run_calls calls_of calls_by deals_in
deals_calls [] x = refl
deals_calls (call c ∷ rest) x =
    rw (deals_in_append, deals_call x c, deals_calls rest (small_call x (call c)).cabinet, run_call x c)
    (sym (deals_cons x.run c (run_calls rest)))
deals_calls (poll i ∷ rest) x =
    rw (deals_in_append, deals_poll x i, deals_calls rest (small_call x (poll i)).cabinet, run_poll x i)

-- ---- a history
module _ (w c : ℕ) (calls : List SmallCall) where
  pub run_is : (small_history w c calls).cabinet.run ≡ (history w c (run_calls calls)).run
  unfolding small_history history open_small
  run_is = run_calls_lem calls (open_small w c).cabinet

  pub deals_are : deals_in (small_history w c calls).told ≡ (history w c (run_calls calls)).deals
  unfolding small_history history open_small
  deals_are = deals_calls calls (open_small w c).cabinet
