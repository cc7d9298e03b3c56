-- What is read off a board after a step: new here, same elsewhere. In order: entering, passing, dealing; what is not named after a
-- step is as before. Cells of different layers, or different cells of one, stand apart. Assumes nothing.
use mathlib.Core.Path.{◌≡◌, refl, ap}
use mathlib.Core.Bool.{false, not}
use mathlib.Core.Logic.{◌≢◌}
use Prim.Native.Nat.{ℕ, suc, ◌+◌, ◌*◌, ◌/◌, ◌<◌}
use native.Mathlib.Nat.{mul-le-mul_right}
use native.Mathlib.Decide.{ℕ_discrete, dec_lt}
use native.Mathlib.Omega.{arith}
use lib.Seq.{get_or-set_same, get_or-set_other}
use Rattle.board.specs.declared.Board.{Board}
use Rattle.board.specs.Board.{free_place, place_at, count_at, cell_at, down_at}
use Rattle.moves.specs.Enter.{at, entering}
use Rattle.moves.specs.Turn.{outlet_of, passing, dealing}
use Rattle.board.proofs.Sound.{Shaped}

-- cells of a network of width w that share a toggle's place are one cell
pub cell_apart : (w K b L c : ℕ) → b < w / 2 → c < w / 2 → cell_at w K b ≡ cell_at w L c → (K ≡ L) × (b ≡ c)
cell_apart w K b L c l m q =
    let h = w / 2 in
    elim (ℕ_discrete K L) [
      | yes p ↦ (p, omega (arith, q, ap (λ z. z * h) p))
      | no n ↦ elim (dec_lt K L) [
        | yes k ↦ absurd (omega (arith, q, mul-le-mul_right {m = suc K} {n = L} h k))
        | no k ↦ absurd (omega (arith, q, mul-le-mul_right {m = suc L} {n = K} h (omega arith)))
      ]
    ]

-- ---- entering: token t stands on wire v of level 0, and one more has entered
module _ (x : Board) (t v : ℕ) where
  pub place_entering : Shaped x → t < 256 → place_at (entering x t v) t ≡ at 0 v
  unfolding place_at entering
  place_entering s l = get_or-set_same x.places t (at 0 v) free_place (omega (arith, s.places))

  pub place_entering_other : (u : ℕ) → u ≢ t → place_at (entering x t v) u ≡ place_at x u
  unfolding place_at entering
  place_entering_other u apart = get_or-set_other x.places t u (at 0 v) free_place apart

  pub count_entering : (i : ℕ) → count_at (entering x t v) i ≡ count_at x i
  unfolding count_at entering
  count_entering i = refl

  pub down_entering : (w L c : ℕ) → down_at w (entering x t v) L c ≡ down_at w x L c
  unfolding down_at entering
  down_entering w L c = refl

-- ---- passing: token t is a level further, on the wire of the outlet, and the cell's toggle is flipped
module _ (w : ℕ) (x : Board) (t feeds : ℕ) where
  abbrev after : Board
  after = (passing w x t feeds).board

  abbrev L : ℕ
  L = (place_at x t).level

  abbrev c : ℕ
  c = feeds / 2

  pub place_passing : Shaped x → t < 256 → place_at after t ≡ at (L + 1) (2 * c + outlet_of (down_at w x L c))
  unfolding place_at passing
  place_passing s l = get_or-set_same x.places t _ free_place (omega (arith, s.places))

  pub place_passing_other : (u : ℕ) → u ≢ t → place_at after u ≡ place_at x u
  unfolding place_at passing
  place_passing_other u apart = get_or-set_other x.places t u _ free_place apart

  pub count_passing : (i : ℕ) → count_at after i ≡ count_at x i
  unfolding count_at passing
  count_passing i = refl

  pub down_passing : Shaped x → cell_at w L c < 1152 → down_at w after L c ≡ not (down_at w x L c)
  unfolding down_at passing
  down_passing s l = get_or-set_same x.toggles (cell_at w L c) _ false (omega (arith, s.toggles))

  pub down_passing_other : (K b : ℕ) → cell_at w K b ≢ cell_at w L c → down_at w after K b ≡ down_at w x K b
  unfolding down_at passing
  down_passing_other K b apart = get_or-set_other x.toggles (cell_at w L c) (cell_at w K b) _ false apart

-- ---- dealing: exit i has dealt one number more, and token t is free
module _ (w : ℕ) (x : Board) (t i : ℕ) where
  abbrev dealt : Board
  dealt = (dealing w x t i).board

  pub place_dealing : Shaped x → t < 256 → place_at dealt t ≡ free_place
  unfolding place_at dealing
  place_dealing s l = get_or-set_same x.places t free_place free_place (omega (arith, s.places))

  pub place_dealing_other : (u : ℕ) → u ≢ t → place_at dealt u ≡ place_at x u
  unfolding place_at dealing
  place_dealing_other u apart = get_or-set_other x.places t u free_place free_place apart

  pub count_dealing : Shaped x → i < 64 → count_at dealt i ≡ count_at x i + 1
  unfolding count_at dealing
  count_dealing s l = get_or-set_same x.counts i (count_at x i + 1) 0 (omega (arith, s.counts))

  pub count_dealing_other : (j : ℕ) → j ≢ i → count_at dealt j ≡ count_at x j
  unfolding count_at dealing
  count_dealing_other j apart = get_or-set_other x.counts i j (count_at x i + 1) 0 apart

  pub down_dealing : (L c : ℕ) → down_at w dealt L c ≡ down_at w x L c
  unfolding down_at dealing
  down_dealing L c = refl
