-- Laws of widths and depths: an allowed width is a power of two, a network that has a layer has an allowed width, and all is
-- small. Assumes nothing.
use mathlib.Core.Path.{◌≡◌, refl, sym}
use mathlib.Core.Bool.{Bool, true, false, not, cond}
use mathlib.Core.List.{List, [], ◌∷◌}
use Prim.Native.Nat.{ℕ, ◌+◌, ◌*◌, ◌/◌, ◌^◌, ◌<◌, ◌≤◌}
use native.Mathlib.Omega.{arith}
use lib.Pow.{pow_mono}
use borrow.Author.Tests.{not-false}
use Rattle.std.proofs.lemmas.Bool.Decides.{nat_tests}
use Rattle.order.specs.Order.{Rule, ◌⟶◌, first_of}
use Rattle.order.proofs.Order.{cleared}
use Rattle.network.specs.Widths.{width_ok, construction_ok, open_no, levels, depth_p, depth, depth_of}

-- ---- a width that has levels is a power of two, and none has more than 6
module _ (w : ℕ) where
  pub levels_power : 0 < levels w → w ≡ 2 ^ levels w
  unfolding levels
  levels_power l = grind (arith, nat_tests)

  pub levels_small : levels w ≤ 6
  unfolding levels
  levels_small = grind (arith, nat_tests)

  levels_wide : 0 < levels w → w ≤ 64
  unfolding levels
  levels_wide l = grind (arith, nat_tests)

  levels_even : 0 < levels w → w ≡ 2 * (w / 2)
  unfolding levels
  levels_even l = grind (arith, nat_tests)

  -- an allowed width is 2^k, its k at most 6
  pub width_power : width_ok w ≡ true → w ≡ 2 ^ levels w
  unfolding width_ok levels
  width_power h = grind (arith, nat_tests)

  pub width_small : width_ok w ≡ true → w ≤ 64
  width_small h = rw (width_power h) (pow_mono levels_small)

  pub width_some : width_ok w ≡ true → 0 < w
  unfolding width_ok
  width_some h = grind (arith, nat_tests)

-- ---- depths
pub depth_b_small : (k : ℕ) → k ≤ 6 → k * (k + 1) ≤ 42
depth_b_small k l = grind arith

pub depth_p_small : (k : ℕ) → k ≤ 6 → depth_p k ≤ 36
depth_p_small k l = grind arith

pub cond_le : (b : Bool) {x y n : ℕ} → x ≤ n → y ≤ n → cond b x y ≤ n
cond_le true p q = p
cond_le false p q = q

pub depth_of_small : (w c : ℕ) → depth_of w c ≤ 36
unfolding depth_of
depth_of_small w c = grind (arith, nat_tests, levels_small, depth_b_small, depth_p_small)

-- what has a layer has a level
depth_level : (c k L : ℕ) → L < depth c k → 0 < k
depth_level c k L l = grind (arith, nat_tests)

-- a width that has a layer is a power of two, even and at most 64
pub record Layered (w : ℕ) : Type 0 where
  pub level : 0 < levels w
  pub power : w ≡ 2 ^ levels w
  pub small : w ≤ 64
  pub even : w ≡ 2 * (w / 2)

pub layered : (w c L : ℕ) → L < depth_of w c → Layered w
unfolding depth_of
layered w c L l =
    let level = depth_level c (levels w) L l in
    record { level = level; power = levels_power w level; small = levels_wide w level; even = levels_even w level }

-- ---- refusals that begin with those of an opening
pub record Allowed (w c : ℕ) : Type 0 where
  pub width : width_ok w ≡ true
  pub construction : construction_ok c ≡ true

pub allowed : (w c : ℕ) → open_no w c ≡ 0 → Allowed w c
unfolding open_no
allowed w c h =
    let one = cleared (not (width_ok w)) 0 _ h in
    let two = cleared (not (construction_ok c)) 1 _ one.then in
    record { width = not-false (width_ok w) one.fails; construction = not-false (construction_ok c) two.fails }

openings : (a b : Bool) (rest : List Rule) → (first_of ((a ⟶ 1) ∷ (b ⟶ 2) ∷ []) ≡ 0 → ⊥) → first_of ((a ⟶ 1) ∷ (b ⟶ 2) ∷ rest) ≡ first_of ((a ⟶ 1) ∷ (b ⟶ 2) ∷ [])
unfolding first_of
openings true b rest h = refl
openings false true rest h = refl
openings false false rest h = absurd (h refl)

module _ (w c : ℕ) (rest : List Rule) where
  pub open_refused : (open_no w c ≡ 0 → ⊥) → open_no w c ≡ first_of ((not (width_ok w) ⟶ 1) ∷ (not (construction_ok c) ⟶ 2) ∷ rest)
  unfolding open_no
  open_refused h = sym (openings (not (width_ok w)) (not (construction_ok c)) rest h)

  pub open_allowed : open_no w c ≡ 0 → first_of ((not (width_ok w) ⟶ 1) ∷ (not (construction_ok c) ⟶ 2) ∷ rest) ≡ first_of rest
  unfolding first_of
  open_allowed h = let a = allowed w c h in rw (a.width, a.construction)
