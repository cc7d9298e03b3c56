-- Laws of sums, and of a count at one place alone. In order: one place; sums of like and of unlike counts; sums taken apart.
-- Assumes nothing.
use Prim.Native.Nat.{ℕ, zero, suc, ◌+◌, ◌-◌, ◌*◌, ◌≤◌, ◌<◌}
use mathlib.Core.Path.{◌≡◌, refl, ap, ap₂, sym, ◌∙◌}
use mathlib.Core.Logic.{◌≢◌}
use native.Mathlib.Nat.{le_step, lt-suc_self, not-suc-le-zero, le_refl, add-zero, add-suc}
use native.Mathlib.Decide.{ℕ_discrete}
use native.Mathlib.Omega.{arith}
use borrow.Author.Tests.{eq-eqb, ne_eqb}
use Rattle.rest.specs.Sum.{only, sum}

pub only_same : (a b y : ℕ) → a ≡ b → only a b y ≡ y
unfolding only
only_same a b y e = rw (eq-eqb a b e)

pub only_other : (a b y : ℕ) → a ≢ b → only a b y ≡ 0
unfolding only
only_other a b y n = rw (ne_eqb a b n)

pub only_zero : (a b : ℕ) → only a b 0 ≡ 0
only_zero a b = elim (ℕ_discrete a b) [ yes e ↦ only_same a b 0 e | no d ↦ only_other a b 0 d ]

pub only_mono : (a b y z : ℕ) → y ≤ z → only a b y ≤ only a b z
only_mono a b y z h = elim (ℕ_discrete a b) [
  | yes e ↦ rw (only_same a b y e, only_same a b z e) h
  | no d ↦ rw (only_other a b y d, only_other a b z d) (le_refl 0)
]

pub sum_ext : (n : ℕ) (f g : ℕ → ℕ) → ((i : ℕ) → i < n → f i ≡ g i) → sum n f ≡ sum n g
unfolding sum
sum_ext zero f g h = refl
sum_ext (suc n) f g h = ap₂ ◌+◌ (sum_ext n f g (λ i l. h i (le_step l))) (h n (lt-suc_self n))

pub sum_mono : (n : ℕ) (f g : ℕ → ℕ) → ((i : ℕ) → i < n → f i ≤ g i) → sum n f ≤ sum n g
unfolding sum
sum_mono zero f g h = omega arith
sum_mono (suc n) f g h = omega (arith, sum_mono n f g (λ i l. h i (le_step l)), h n (lt-suc_self n))

-- two functions that differ at k only
pub sum_change : (n : ℕ) (f g : ℕ → ℕ) (k : ℕ) → k < n → ((i : ℕ) → i < n → i ≢ k → g i ≡ f i) → sum n g + f k ≡ sum n f + g k
unfolding sum
sum_change zero f g k l h = absurd (not-suc-le-zero l)
sum_change (suc n) f g k l h = elim (ℕ_discrete n k) [
  | yes e ↦
      let q : sum n g ≡ sum n f = sum_ext n g f (λ i m. h i (le_step m) (omega arith)) in
      rw (q, ← e) (omega arith)
  | no d ↦ omega (arith, sum_change n f g k (omega arith) (λ i m. h i (le_step m)), h n (lt-suc_self n) d)
]

-- a sum of differences
pub sum_minus : (n : ℕ) (f g : ℕ → ℕ) → ((i : ℕ) → i < n → g i ≤ f i) → sum n (λ i. f i - g i) + sum n g ≡ sum n f
unfolding sum
sum_minus zero f g h = refl
sum_minus (suc n) f g h = omega (arith, sum_minus n f g (λ i l. h i (le_step l)), h n (lt-suc_self n))

pub sum_zero : (n : ℕ) (f : ℕ → ℕ) → ((i : ℕ) → i < n → f i ≡ 0) → sum n f ≡ 0
unfolding sum
sum_zero zero f h = refl
sum_zero (suc n) f h = omega (arith, sum_zero n f (λ i l. h i (le_step l)), h n (lt-suc_self n))

-- a summand is at most the sum
pub term_le_sum : (n : ℕ) (f : ℕ → ℕ) (k : ℕ) → k < n → f k ≤ sum n f
unfolding sum
term_le_sum zero f k l = absurd (not-suc-le-zero l)
term_le_sum (suc n) f k l = elim (ℕ_discrete n k) [
  | yes e ↦ rw (← e) (omega arith)
  | no d ↦ omega (arith, term_le_sum n f k (omega arith))
]

pub sum_add : (n : ℕ) (f g : ℕ → ℕ) → sum n (λ i. f i + g i) ≡ sum n f + sum n g
unfolding sum
sum_add zero f g = refl
sum_add (suc n) f g = omega (arith, sum_add n f g)

-- y at k alone
pub sum_only : (n k y : ℕ) → k < n → sum n (λ i. only k i y) ≡ y
sum_only n k y l =
    omega (
      arith,
      sum_zero n (λ i. 0) (λ i m. refl),
      only_same k k y refl,
      sum_change n (λ i. 0) (λ i. only k i y) k l (λ i m d. only_other k i y (λ e. d (sym e))),
    )

pub sum_ones : (n : ℕ) → sum n (λ i. 1) ≡ n
unfolding sum
sum_ones zero = refl
sum_ones (suc n) = omega (arith, sum_ones n)

pub sum_least : (n a : ℕ) (f : ℕ → ℕ) → ((i : ℕ) → i < n → a ≤ f i) → n * a ≤ sum n f
unfolding sum
sum_least zero a f h = omega arith
sum_least (suc n) a f h = omega (arith, sum_least n a f (λ i l. h i (le_step l)), h n (lt-suc_self n))

pub sum_most : (n a : ℕ) (f : ℕ → ℕ) → ((i : ℕ) → i < n → f i ≤ a) → sum n f ≤ n * a
unfolding sum
sum_most zero a f h = omega arith
sum_most (suc n) a f h = omega (arith, sum_most n a f (λ i l. h i (le_step l)), h n (lt-suc_self n))

-- the first m, then n more
pub sum_append : (m n : ℕ) (f : ℕ → ℕ) → sum (m + n) f ≡ sum m f + sum n (λ i. f (m + i))
unfolding sum
sum_append m zero f = rw (add-zero m) (omega arith)
sum_append m (suc n) f = rw (add-suc m n) (omega (arith, sum_append m n f))

-- the even places and the odd ones
pub sum_pairs : (n : ℕ) (f : ℕ → ℕ) → sum (2 * n) f ≡ sum n (λ i. f (2 * i)) + sum n (λ i. f (2 * i + 1))
unfolding sum
sum_pairs zero f = refl
sum_pairs (suc n) f =
    let twice : 2 * suc n ≡ suc (suc (2 * n)) = omega arith in
    let last : f (suc (2 * n)) ≡ f (2 * n + 1) = ap f (omega arith) in
    ap (λ t. sum t f) twice ∙ omega (arith, sum_pairs n f)
