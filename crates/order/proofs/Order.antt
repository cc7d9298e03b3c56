-- Laws of `first_of`. In order: a number is given exactly when its condition holds and none before it does; the set that
-- `search` closes a refusal with; what is known where nothing is refused; how large a number is. Assumes nothing.
use Prim.Native.Nat.{ℕ, suc, ◌≤◌}
use mathlib.Core.List.{List, [], ◌∷◌}
use mathlib.Core.Bool.{Bool, true, false, not, cond}
use mathlib.Core.Path.{◌≡◌, refl}
use native.Mathlib.Omega.{arith}
use lib.Dec.{leb}
use borrow.Author.Tests.{leb-true, lt-ltb, le-ltb, le-leb, lt-leb, eq-eqb, ne_eqb}
use Rattle.order.specs.Order.{Rule, ◌⟶◌, first_of}

-- the first whose condition holds has the number n
pub data First : List Rule → ℕ → Type 0 where
  none : First [] 0
  here : {r : Rule} {rs : List Rule} → r.when ≡ true → First (r ∷ rs) r.number
  later : {r : Rule} {rs : List Rule} {n : ℕ} → r.when ≡ false → First rs n → First (r ∷ rs) n

at_head : (b : Bool) (n : ℕ) (rs : List Rule) → First rs (first_of rs) → First ((b ⟶ n) ∷ rs) (cond b n (first_of rs))
at_head true n rs f = here refl
at_head false n rs f = later refl f

pub first_of_first : (rs : List Rule) → First rs (first_of rs)
unfolding first_of
first_of_first [] = none
first_of_first (r ∷ rs) = at_head r.when r.number rs (first_of_first rs)

pub first→first_of : {rs : List Rule} {n : ℕ} → First rs n → n ≡ first_of rs
unfolding first_of
first→first_of none = refl
first→first_of (here e) = rw e
first→first_of (later e f) = rw e (first→first_of f)

-- ---- as lemmas, for `search order`
pub is_here : {b : Bool} {n : ℕ} {rs : List Rule} → b ≡ true → First ((b ⟶ n) ∷ rs) n
is_here e = here e

pub is_later : {b : Bool} {m n : ℕ} {rs : List Rule} → b ≡ false → First rs n → First ((b ⟶ m) ∷ rs) n
is_later e f = later e f

pub is_none : First [] 0
is_none = none

pub true_not : {b : Bool} → b ≡ true → not b ≡ false
true_not e = rw e

pub false_not : {b : Bool} → b ≡ false → not b ≡ true
false_not e = rw e

pub ruleset order = (first→first_of, is_here, is_later, is_none, true_not, false_not, lt-ltb, le-ltb, le-leb, lt-leb, eq-eqb, ne_eqb)

-- ---- nothing is refused: the first condition fails, and nothing after it is refused
pub record Cleared (b : Bool) (rs : List Rule) : Type 0 where
  pub fails : b ≡ false
  pub then : first_of rs ≡ 0

pub cleared : (b : Bool) (n : ℕ) (rs : List Rule) → first_of ((b ⟶ suc n) ∷ rs) ≡ 0 → Cleared b rs
unfolding first_of
cleared true n rs h = absurd (omega arith)
cleared false n rs h = record { fails = refl; then = h }

-- ---- a number is no larger than the largest of the list
unfoldable pub at_most : ℕ → List Rule → Bool
at_most n [] = true
at_most n (r ∷ rs) = cond (leb r.number n) (at_most n rs) false

head_le : (b c : Bool) (n k m : ℕ) (rs : List Rule) → leb k n ≡ c → cond c (at_most n rs) false ≡ true → (at_most n rs ≡ true → m ≤ n)
    → cond b k m ≤ n
head_le true true n k m rs e h f = leb-true k n e
head_le false true n k m rs e h f = f h
head_le b false n k m rs e h f = let never : ◌≡◌ {A = ℕ} 0 1 = cc in absurd (omega arith)

pub first_of_le : (n : ℕ) (rs : List Rule) → at_most n rs ≡ true → first_of rs ≤ n
unfolding first_of at_most
first_of_le n [] h = omega arith
first_of_le n (r ∷ rs) h = head_le r.when (leb r.number n) n r.number (first_of rs) rs refl h (first_of_le n rs)
