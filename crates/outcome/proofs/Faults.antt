-- 17, the number of the output room, is none that a record is refused by. In order: any list of refusals; reading; a record's place;
-- a record. Assumes nothing.
use Prim.Native.Nat.{ℕ}
use mathlib.Core.Path.{◌≡◌, refl}
use mathlib.Core.Bool.{Bool, true, false, not, cond, ◌&&◌}
use mathlib.Core.List.{List, [], ◌∷◌}
use lib.Dec.{eqb}
use borrow.Author.Tests.{eqb-false}
use native.Mathlib.Omega.{arith}
use Rattle.order.specs.Order.{Rule, first_of}
use Rattle.network.specs.Widths.{open_no}
use Rattle.moves.specs.Enter.{enter_no}
use Rattle.moves.specs.Turn.{turn_no}
use Rattle.board.proofs.Lists.{cond_case}
use Rattle.run.specs.declared.Run.{Run}
use Rattle.run.specs.Run.{open_of}
use Rattle.run.proofs.Keeps.{enter_number, turn_answer}
use Rattle.records.specs.declared.Record.{Record}
use Rattle.records.specs.declared.Record.TheVariants.{Open, Enter, Turn, Close, Number}
use Rattle.records.specs.Reading.{read_no}
use Rattle.outcome.specs.Course.{Course, Step}
use Rattle.outcome.specs.Step.{close_no, phase_no, place_no, served_of, step_of}

-- no number of the list is 17
unfoldable without17 : List Rule → Bool
without17 [] = true
without17 (r ∷ rs) = not (eqb r.number 17) && without17 rs

head_other : (b c : Bool) (k m : ℕ) (rs : List Rule) → eqb k 17 ≡ c → not c && without17 rs ≡ true → (without17 rs ≡ true → m ≡ 17 → ⊥)
    → cond b k m ≡ 17 → ⊥
head_other b true k m rs e h f = let never : ◌≡◌ {A = ℕ} 0 1 = cc in absurd (omega arith)
head_other true false k m rs e h f = eqb-false k 17 e
head_other false false k m rs e h f = f h

first_of_other : (rs : List Rule) → without17 rs ≡ true → first_of rs ≡ 17 → ⊥
unfolding first_of without17
first_of_other [] h = λ e. omega arith
first_of_other (r ∷ rs) h = head_other r.when (eqb r.number 17) r.number (first_of rs) rs refl h (first_of_other rs)

pub read_no_other : (reports : Bool) (s : List ℕ) → read_no reports s ≡ 17 → ⊥
unfolding read_no without17
read_no_other reports s = first_of_other _ refl

place_other : (p : ℕ) (r : Record) → place_no p r ≡ 17 → ⊥
unfolding place_no phase_no without17
place_other p (Open w c) = first_of_other _ refl
place_other p (Enter t v) = first_of_other _ refl
place_other p (Turn t) = first_of_other _ refl
place_other p (Close e) = first_of_other _ refl
place_other p (Number t v n) = λ h. omega arith

served_other : (x : Run) (r : Record) → (served_of x r).refusal ≡ 17 → ⊥
unfolding served_of open_of open_no enter_no turn_no close_no without17
served_other x (Open w c) = first_of_other _ refl
served_other x (Enter t v) = rw enter_number (first_of_other _ refl)
served_other x (Turn t) = rw turn_answer (first_of_other _ refl)
served_other x (Close e) = first_of_other _ refl
served_other x (Number t v n) = λ h. omega arith

pub refusal_other : (x : Course) (r : Record) → (step_of x r).refusal ≡ 17 → ⊥
unfolding step_of
refusal_other x r =
    cond_case (λ (y : Step). y.refusal ≡ 17 → ⊥) (eqb (place_no x.phase r) 0) _ _
    (λ _. served_other x.run r) (λ _. place_other x.phase r)
