-- The gap list (01, "A run"; 02, P1). Definitions only. Assumes nothing.
use Rattle.std.specs.Prelude.{ℕ, zero, suc, ◌/◌, ◌%◌, ◌≡◌, Bool, not, cond, List, [], ◌∷◌, ◌++◌, eqb, leb, ltb, length, Result}
use Rattle.order.specs.declared.Refusal.{Refusal}
use Rattle.order.specs.Order.{◌⟶◌, first_of, filled_by, filled_of, over}
use Rattle.board.specs.declared.Board.{Board}
use Rattle.board.specs.Board.{count_at}

-- a number v is missing when exit v mod w has dealt at most v div w numbers
unfoldable pub missing : ℕ → Board → ℕ → Bool
missing w x v = leb (count_at x (v % w)) (v / w)

-- the missing numbers below n, rising
unfoldable pub gaps_below : ℕ → Board → ℕ → List ℕ
gaps_below w x zero = []
gaps_below w x (suc n) = gaps_below w x n ++ cond (missing w x n) (n ∷ []) []

-- the gap list of a record of width w: those below entered
unfoldable pub gaps_of : ℕ → Board → List ℕ
gaps_of w x = gaps_below w x x.entered

-- `good` says whether the record is sound: 9 record not sound; 17 output room too small
unfoldable pub gaps_no : Bool → ℕ → Board → ℕ → ℕ
gaps_no good w x room = first_of ((not good ⟶ 9) ∷ (ltb room (length (gaps_of w x)) ⟶ 17) ∷ [])

-- what is answered, and the lent numbers after it: the places after the list stay, and a refusal changes nothing
pub record GapsIs (good : Bool) (w : ℕ) (x : Board) (before after : List ℕ) (r : Result ℕ Refusal) : Type 0 where
  pub answer : filled_by r ≡ filled_of (gaps_no good w x (length before)) (length (gaps_of w x))
  pub numbers : after ≡ cond (eqb (gaps_no good w x (length before)) 0) (over (gaps_of w x) before) before
