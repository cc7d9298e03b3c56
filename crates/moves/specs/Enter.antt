-- Entering (01, "A run" and the order of refusal). `good` says whether the record is sound. A refused call gives the board back
-- as it was. Definitions only. Assumes nothing.
use Rattle.std.specs.Prelude.{ℕ, ◌+◌, Bool, true, not, cond, [], ◌∷◌, eqb, leb, ltb, set, ⊤}
use Rattle.order.specs.declared.After.{After}
use Rattle.order.specs.Order.{◌⟶◌, first_of, refused_by}
use Rattle.board.specs.declared.Place.{Place}
use Rattle.board.specs.declared.Board.{Board}
use Rattle.board.specs.Board.{max_entered, place_at}

abbrev pub at : ℕ → ℕ → Place
at L v = record { inside = true; level = L; wire = v }

-- 9 not sound; 4 token above 255; 5 wire not below w; 6 token already inside; 7 entered is 1,000,000
unfoldable pub enter_no : Bool → ℕ → Board → ℕ → ℕ → ℕ
enter_no good w x t v =
    first_of ((not good ⟶ 9) ∷ (ltb 255 t ⟶ 4) ∷ (leb w v ⟶ 5) ∷ ((place_at x t).inside ⟶ 6) ∷ (eqb x.entered max_entered ⟶ 7) ∷ [])

-- token t on wire v of level 0
unfoldable pub entering : Board → ℕ → ℕ → Board
entering x t v = record { entered = x.entered + 1; counts = x.counts; toggles = x.toggles; places = set x.places t (at 0 v) }

-- what entering gives: the refusal's number, 0 where it was carried out, and the board after it
pub record Boarded : Type 0 where
  pub refusal : ℕ
  pub board : Board

abbrev pub boarded : After Board ⊤ → Boarded
boarded a = record { refusal = refused_by a.answer; board = a.state }

unfoldable pub enter_with : Bool → ℕ → Board → ℕ → ℕ → Boarded
enter_with good w x t v =
    let n = enter_no good w x t v in
    record { refusal = n; board = cond (eqb n 0) (entering x t v) x }
