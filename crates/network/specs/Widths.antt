-- Allowed widths and constructions, and the depth (01, "What the cabinet's software holds"). Definitions only. Assumes nothing.
use Rattle.std.specs.Prelude.{ℕ, ◌+◌, ◌*◌, ◌/◌, Bool, not, cond, ◌||◌, [], ◌∷◌, eqb}
use Rattle.order.specs.Order.{◌⟶◌, first_of}

unfoldable pub width_ok : ℕ → Bool
width_ok w = eqb w 1 || eqb w 2 || eqb w 4 || eqb w 8 || eqb w 16 || eqb w 32 || eqb w 64

-- 1 bitonic, 2 periodic
unfoldable pub construction_ok : ℕ → Bool
construction_ok c = eqb c 1 || eqb c 2

-- opening: 1 width not allowed; 2 construction not 1 or 2
unfoldable pub open_no : ℕ → ℕ → ℕ
open_no w c = first_of ((not (width_ok w) ⟶ 1) ∷ (not (construction_ok c) ⟶ 2) ∷ [])

-- the k of a width w = 2^k, and 0 where the width is not allowed
unfoldable pub levels : ℕ → ℕ
levels w =
    cond (eqb w 2) 1 (cond (eqb w 4) 2 (cond (eqb w 8) 3 (cond (eqb w 16) 4 (cond (eqb w 32) 5 (cond (eqb w 64) 6 0)))))

-- the layers of BITONIC[2^k], of PERIODIC[2^k], and of construction c, where any number but 1 reads as periodic
abbrev pub depth_b : ℕ → ℕ
depth_b k = k * (k + 1) / 2

abbrev pub depth_p : ℕ → ℕ
depth_p k = k * k

abbrev pub depth : ℕ → ℕ → ℕ
depth c k = cond (eqb c 1) (depth_b k) (depth_p k)

-- of a width, which has no layers where it is not allowed
unfoldable pub depth_of : ℕ → ℕ → ℕ
depth_of w c = depth c (levels w)
