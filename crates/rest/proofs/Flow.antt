-- Laws of the flow through layers. In order: of cells, of layers, of the flow.
-- Assumes nothing.
use Prim.Native.Nat.{ℕ, zero, suc, ◌+◌, ◌*◌, ◌/◌, ◌%◌, ◌≤◌, ◌<◌}
use mathlib.Core.Path.{◌≡◌, refl, ap, ap₂, sym, ◌∙◌, fun_ext}
use mathlib.Core.Logic.{◌≢◌}
use native.Mathlib.Nat.{add-zero, add-suc, le_step, lt-suc_self}
use native.Mathlib.Decide.{ℕ_discrete}
use native.Mathlib.Omega.{arith}
use Rattle.rest.specs.Sum.{only, sum}
use Rattle.rest.specs.Flow.{outlet, csum, layer, flow}
use Rattle.rest.proofs.Sum.{only_same, only_other, only_zero, only_mono, sum_ext, sum_mono, sum_change, sum_zero, sum_add, sum_only, sum_pairs}

-- ---- a cell
pub csum_zero : (w : ℕ) (f : ℕ → ℕ) (c : ℕ) → csum w f (λ v. 0) c ≡ 0
unfolding csum
csum_zero w f c = sum_zero w (λ v. only (f v) c 0) (λ v l. only_zero (f v) c)

pub csum_ext : (w : ℕ) (f y z : ℕ → ℕ) (c : ℕ) → ((v : ℕ) → v < w → y v ≡ z v) → csum w f y c ≡ csum w f z c
unfolding csum
csum_ext w f y z c h = sum_ext w (λ v. only (f v) c (y v)) (λ v. only (f v) c (z v)) (λ v l. ap (only (f v) c) (h v l))

csum_mono : (w : ℕ) (f y z : ℕ → ℕ) (c : ℕ) → ((v : ℕ) → v < w → y v ≤ z v) → csum w f y c ≤ csum w f z c
unfolding csum
csum_mono w f y z c h = sum_mono w (λ v. only (f v) c (y v)) (λ v. only (f v) c (z v)) (λ v l. only_mono (f v) c (y v) (z v) (h v l))

-- one more on wire v
pub csum_bump : (w : ℕ) (f y z : ℕ → ℕ) (v c : ℕ) → v < w → z v ≡ suc (y v) → ((u : ℕ) → u < w → u ≢ v → z u ≡ y u)
    → csum w f z c ≡ csum w f y c + only (f v) c 1
unfolding csum
csum_bump w f y z v c l e h =
    let q : sum w (λ u. only (f u) c (z u)) + only (f v) c (y v) ≡ sum w (λ u. only (f u) c (y u)) + only (f v) c (z v)
    = sum_change w (λ u. only (f u) c (y u)) (λ u. only (f u) c (z u)) v l (λ u m n. ap (only (f u) c) (h u m n)) in
    elim (ℕ_discrete (f v) c) [
      | yes a ↦ omega (arith, q, only_same (f v) c (y v) a, only_same (f v) c (z v) a, only_same (f v) c 1 a, e)
      | no n ↦ omega (arith, q, only_other (f v) c (y v) n, only_other (f v) c (z v) n, only_other (f v) c 1 n)
    ]

-- the next token after n leaves by outlet n % 2: of cell c, on wire 2c + n % 2
pub outlet_bump : (n c p : ℕ) → c ≡ p / 2 → outlet (p % 2) (n + 1) ≡ outlet (p % 2) n + only (2 * c + n % 2) p 1
outlet_bump n c p h = elim (ℕ_discrete (2 * c + n % 2) p) [
  | yes e ↦ rw (only_same (2 * c + n % 2) p 1 e) (omega arith)
  | no d ↦ rw (only_other (2 * c + n % 2) p 1 d) (omega arith)
]

-- what comes to the h cells is what was on the wires
pub sum_csum : (h w : ℕ) (f x : ℕ → ℕ) → ((v : ℕ) → v < w → f v < h) → sum h (csum w f x) ≡ sum w x
unfolding csum sum
sum_csum h zero f x within = sum_zero h (λ c. 0) (λ c l. refl)
sum_csum h (suc w) f x within =
    sum_add h (csum w f x) (λ c. only (f w) c (x w))
    ∙ ap₂ ◌+◌ (sum_csum h w f x (λ v l. within v (le_step l))) (sum_only h (f w) (x w) (within w (lt-suc_self w)))

-- ---- a layer
pub layer_zero : (w : ℕ) (f : ℕ → ℕ) (p : ℕ) → layer w f (λ v. 0) p ≡ 0
unfolding layer
layer_zero w f p = omega (arith, csum_zero w f (p / 2))

pub layer_ext : (w : ℕ) (f y z : ℕ → ℕ) (p : ℕ) → ((v : ℕ) → v < w → y v ≡ z v) → layer w f y p ≡ layer w f z p
unfolding layer
layer_ext w f y z p h = ap (outlet (p % 2)) (csum_ext w f y z (p / 2) h)

pub layer_mono : (w : ℕ) (f y z : ℕ → ℕ) (p : ℕ) → ((v : ℕ) → v < w → y v ≤ z v) → layer w f y p ≤ layer w f z p
unfolding layer
layer_mono w f y z p h = omega (arith, csum_mono w f y z (p / 2) h)

-- a cell neither swallows nor makes tokens
pub sum_layer : (h w : ℕ) (f x : ℕ → ℕ) → ((v : ℕ) → v < w → f v < h) → sum (2 * h) (layer w f x) ≡ sum w x
unfolding layer
sum_layer h w f x within =
    sum_pairs h (layer w f x) ∙ sym (sum_add h (λ c. layer w f x (2 * c)) (λ c. layer w f x (2 * c + 1)))
    ∙ sum_ext h (λ c. layer w f x (2 * c) + layer w f x (2 * c + 1)) (csum w f x) (λ c l. whole c)
    ∙ sum_csum h w f x within
  where
    whole : (c : ℕ) → layer w f x (2 * c) + layer w f x (2 * c + 1) ≡ csum w f x c
    whole c =
        let top : 2 * c / 2 ≡ c = omega arith in
        let bottom : (2 * c + 1) / 2 ≡ c = omega arith in
        omega (arith, ap (csum w f x) top, ap (csum w f x) bottom)

-- ---- the flow
-- it depends on the entries below w alone
pub flow_ext : (w : ℕ) (cell : ℕ → ℕ → ℕ) (x y : ℕ → ℕ) → ((v : ℕ) → v < w → x v ≡ y v)
    → (L v : ℕ) → v < w → flow w cell x L v ≡ flow w cell y L v
unfolding flow
flow_ext w cell x y h zero v l = h v l
flow_ext w cell x y h (suc L) v l = layer_ext w (cell L) (flow w cell x L) (flow w cell y L) v (flow_ext w cell x y h L)

-- more on the entry wires, no fewer on any wire
pub flow_mono : (w : ℕ) (cell : ℕ → ℕ → ℕ) (x y : ℕ → ℕ) → ((v : ℕ) → v < w → x v ≤ y v)
    → (L v : ℕ) → v < w → flow w cell x L v ≤ flow w cell y L v
unfolding flow
flow_mono w cell x y h zero v l = h v l
flow_mono w cell x y h (suc L) v l = layer_mono w (cell L) (flow w cell x L) (flow w cell y L) v (flow_mono w cell x y h L)

-- m layers, then n more
pub flow_add : (w : ℕ) (cell : ℕ → ℕ → ℕ) (x : ℕ → ℕ) (m n : ℕ) → flow w cell x (m + n) ≡ flow w (λ L. cell (m + L)) (flow w cell x m) n
unfolding flow
flow_add w cell x m zero = ap (λ z. flow w cell x z) (add-zero m)
flow_add w cell x m (suc n) = ap (λ z. flow w cell x z) (add-suc m n) ∙ fun_ext (λ v. ap (λ z. layer w (cell (m + n)) z v) (flow_add w cell x m n))

-- every level has as many as entered
pub sum_flow : (h w : ℕ) (cell : ℕ → ℕ → ℕ) (x : ℕ → ℕ) (d : ℕ) → w ≡ 2 * h → ((L v : ℕ) → L < d → v < w → cell L v < h)
    → sum w (flow w cell x d) ≡ sum w x
unfolding flow
sum_flow h w cell x zero twice within = refl
sum_flow h w cell x (suc d) twice within =
    ap (λ n. sum n (layer w (cell d) (flow w cell x d))) twice ∙ sum_layer h w (cell d) (flow w cell x d) (λ v l. within d v (lt-suc_self d) l)
    ∙ sum_flow h w cell x d twice (λ L v l. within L v (le_step l))

-- rows that are the same in the layers passed
pub flow_rows : (w : ℕ) (cell other : ℕ → ℕ → ℕ) (x : ℕ → ℕ) (d : ℕ) → ((L : ℕ) → L < d → cell L ≡ other L) → flow w cell x d ≡ flow w other x d
unfolding flow
flow_rows w cell other x zero h = refl
flow_rows w cell other x (suc d) h = ap₂ (layer w) (h d (lt-suc_self d)) (flow_rows w cell other x d (λ L l. h L (le_step l)))
