-- The sheet and the view of one row (01, "Wiring" and the orders of refusal). Definitions only. Assumes nothing.
use Rattle.std.specs.Prelude.{ℕ, Result, ◌+◌, ◌*◌, ◌≡◌, not, cond, List, [], ◌∷◌, leb, ltb, eqb, length, take, drop}
use Rattle.order.specs.Order.{◌⟶◌, first_of, filled_by, filled_of, over}
use Rattle.order.specs.declared.Refusal.{Refusal}
use Rattle.network.specs.Widths.{width_ok, construction_ok, depth_of}
use Rattle.network.specs.Rows.{sheet_of}

-- the bytes of a sheet
unfoldable pub sheet_length : ℕ → ℕ → ℕ
sheet_length w c = depth_of w c * w

-- ---- the sheet: 1 width not allowed; 2 construction not 1 or 2; 3 sheet shorter than depth · w
unfoldable pub sheet_no : ℕ → ℕ → ℕ → ℕ
sheet_no w c room =
    first_of ((not (width_ok w) ⟶ 1) ∷ (not (construction_ok c) ⟶ 2) ∷ (ltb room (sheet_length w c) ⟶ 3) ∷ [])

-- what is answered, and the lent bytes after it: further bytes stay, and a refusal changes nothing
pub record SheetIs (w c : ℕ) (before after : List ℕ) (r : Result ℕ Refusal) : Type 0 where
  pub answer : filled_by r ≡ filled_of (sheet_no w c (length before)) (sheet_length w c)
  pub bytes : after ≡ cond (eqb (sheet_no w c (length before)) 0) (over (sheet_of w c) before) before

-- ---- the view: 1; 2; 10 layer not below depth; 3 of the chosen sheet only, which has n bytes
unfoldable pub view_no : ℕ → ℕ → ℕ → ℕ → ℕ
view_no w c L n =
    first_of
    ((not (width_ok w) ⟶ 1)
    ∷ (not (construction_ok c) ⟶ 2)
    ∷ (leb (depth_of w c) L ⟶ 10)
    ∷ (ltb n (sheet_length w c) ⟶ 3)
    ∷ [])

-- of the bitonic and the periodic sheet, the one of construction c; where c is neither, the second, and 2 refuses it
abbrev pub chosen : {A : Type 0} → ℕ → A → A → A
chosen c b p = cond (eqb c 1) b p

-- the very w bytes at L · w of a sheet at a place in memory (a block and an offset in it), or none
pub record ViewIs (w c L : ℕ) (sheet : List ℕ) (at : ℕ × ℕ) (row : List ℕ) (row_at : ℕ × ℕ) : Type 0 where
  pub bytes : row ≡ cond (eqb (view_no w c L (length sheet)) 0) (take w (drop (L * w) sheet)) []
  pub there : view_no w c L (length sheet) ≡ 0 → row_at ≡ (at.0, L * w + at.1)
