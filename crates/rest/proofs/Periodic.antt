-- BLOCK brings the step property of chains one level up (000, Lemmas 4.1 to 4.3, Theorem 4.4), so that the k blocks of PERIODIC
-- have it on all wires, as crate `network` wires them.
-- Assumes nothing.
use Prim.Native.Nat.{ℕ, zero, suc, ◌+◌, ◌-◌, ◌*◌, ◌/◌, ◌%◌, ◌^◌, ◌<◌}
use mathlib.Core.Path.{◌≡◌, ap, ap₂, sym, ◌∙◌, fun_ext, subst}
use native.Mathlib.Nat.{pow-succ', add-mod_left, mod-eq_of_lt}
use native.Mathlib.Decide.{ℕ_discrete}
use native.Mathlib.Omega.{arith}
use lib.Pow.{pow_pos}
use borrow.Author.Tests.{eq-eqb, ne_eqb}
use Rattle.network.specs.declared.Feed.TheVariants.{Block}
use Rattle.network.specs.Widths.{depth_p}
use Rattle.network.specs.Wiring.{part, periodic}
use Rattle.rest.specs.Sum.{sum}
use Rattle.rest.specs.Flow.{outlet, flow}
use Rattle.rest.specs.Rest.{Step}
use Rattle.rest.proofs.Sum.{sum_pairs}
use Rattle.rest.proofs.Flow.{flow_add, flow_rows}
use Rattle.rest.proofs.Step.{evens, odds, join, step_ext, step_outlet, step_evens, step_odds, evens_sum, odds_sum}
use Rattle.rest.proofs.Layers.{level_of, Takes}
use Rattle.rest.proofs.Parts.{passed, passed_join, step_one, step_two}

-- ---- cochains: the wires whose two low bits are 00 or 11, and those with 01 or 10, in rising order
abbrev cochain_a : (ℕ → ℕ) → ℕ → ℕ
cochain_a x = λ i. x (2 * i + i % 2)

abbrev cochain_b : (ℕ → ℕ) → ℕ → ℕ
cochain_b x = λ i. x (2 * i + (1 - i % 2))

takes_block : (h : ℕ) (x : ℕ → ℕ) → Takes Block h x (cochain_a x) (cochain_b x)
takes_block h x v l = elim (ℕ_discrete (v % 2) (v / 2 % 2)) [
  | yes e ↦ rw (eq-eqb (v % 2) (v / 2 % 2) e) (ap x (omega arith))
  | no n ↦ rw (ne_eqb (v % 2) (v / 2 % 2) n) (ap x (omega arith))
]

-- Lemma 4.1, where it is used: the level 1 chains of the cochains are the level 2 chains
module _ (x : ℕ → ℕ) where
  evens_a : evens (cochain_a x) ≡ evens (evens x)
  evens_a = fun_ext (λ i. ap x (omega arith))

  odds_a : odds (cochain_a x) ≡ odds (odds x)
  odds_a = fun_ext (λ i. ap x (omega arith))

  evens_b : evens (cochain_b x) ≡ evens (odds x)
  evens_b = fun_ext (λ i. ap x (omega arith))

  odds_b : odds (cochain_b x) ≡ odds (evens x)
  odds_b = fun_ext (λ i. ap x (omega arith))

-- ---- Lemma 4.3: a block whose even and odd wires have the step property has it
pub block_step : (k : ℕ) (x : ℕ → ℕ) → Step (2 ^ k) (evens x) → Step (2 ^ k) (odds x) → Step (2 ^ suc k) (passed Block (suc k) x)
block_step zero x step-e step-o = step_one Block x
block_step (suc k) x step-e step-o =
    step_two Block k x (cochain_a x) (cochain_b x) (takes_block (2 ^ suc k) x)
    (block_step k (cochain_a x) (subst (Step (2 ^ k)) (sym (evens_a x)) (step_evens (2 ^ suc k) (2 ^ k) twice (evens x) step-e))
    (subst (Step (2 ^ k)) (sym (odds_a x)) (step_odds (2 ^ suc k) (2 ^ k) twice (odds x) step-o)))
    (block_step k (cochain_b x) (subst (Step (2 ^ k)) (sym (evens_b x)) (step_evens (2 ^ suc k) (2 ^ k) twice (odds x) step-o))
    (subst (Step (2 ^ k)) (sym (odds_b x)) (step_odds (2 ^ suc k) (2 ^ k) twice (evens x) step-e)))
    (omega (arith, first, second)) (omega (arith, first, second))
  where
    twice : 2 ^ suc k ≡ 2 * 2 ^ k
    twice = pow-succ' 2 k

    first : sum (2 ^ suc k) (cochain_a x) ≡ (sum (2 ^ suc k) (evens x) + 1) / 2 + sum (2 ^ suc k) (odds x) / 2
    first =
        ap (λ n. sum n (cochain_a x)) twice ∙ sum_pairs (2 ^ k) (cochain_a x) ∙ ap₂ ◌+◌ (ap (sum (2 ^ k)) (evens_a x)) (ap (sum (2 ^ k)) (odds_a x))
        ∙ ap₂ ◌+◌ (evens_sum (2 ^ suc k) (2 ^ k) twice (evens x) step-e (pow_pos k)) (odds_sum (2 ^ suc k) (2 ^ k) twice (odds x) step-o (pow_pos k))

    second : sum (2 ^ suc k) (cochain_b x) ≡ (sum (2 ^ suc k) (odds x) + 1) / 2 + sum (2 ^ suc k) (evens x) / 2
    second =
        ap (λ n. sum n (cochain_b x)) twice ∙ sum_pairs (2 ^ k) (cochain_b x) ∙ ap₂ ◌+◌ (ap (sum (2 ^ k)) (evens_b x)) (ap (sum (2 ^ k)) (odds_b x))
        ∙ ap₂ ◌+◌ (evens_sum (2 ^ suc k) (2 ^ k) twice (odds x) step-o (pow_pos k)) (odds_sum (2 ^ suc k) (2 ^ k) twice (evens x) step-e (pow_pos k))

-- ---- chains: each level l chain of the 2^k wires, those whose places have the same l low bits, has the step property
unfoldable pub Chains : ℕ → ℕ → (ℕ → ℕ) → Type 0
Chains zero k x = Step (2 ^ k) x
Chains (suc l) zero x = Unit {0}
Chains (suc l) (suc k) x = Chains l k (evens x) × Chains l k (odds x)

chains_ext : (l k : ℕ) (x y : ℕ → ℕ) → ((i : ℕ) → i < 2 ^ k → y i ≡ x i) → Chains l k x → Chains l k y
unfolding Chains
chains_ext zero k x y h c = step_ext (2 ^ k) x y h c
chains_ext (suc l) zero x y h c = tt
chains_ext (suc l) (suc k) x y h c = (
  chains_ext l k (evens x) (evens y) (λ i m. h (2 * i) (omega arith)) c.0,
  chains_ext l k (odds x) (odds y) (λ i m. h (2 * i + 1) (omega arith)) c.1,
)

-- on one wire
chains_one : (l : ℕ) (x : ℕ → ℕ) → Chains l zero x
unfolding Chains
chains_one zero x = λ i j l m. omega arith
chains_one (suc l) x = tt

-- the level k chains of 2^k wires are the wires one by one
chains_all : (k : ℕ) (x : ℕ → ℕ) → Chains k k x
unfolding Chains
chains_all zero x = chains_one zero x
chains_all (suc k) x = (chains_all k (evens x), chains_all k (odds x))

-- by Lemma 4.2, chain by chain
chains_outlet : (s l k : ℕ) (x y : ℕ → ℕ) → s < 2 → Chains l k x → Chains l k y → Chains l k (λ i. outlet s (x i + y i))
unfolding Chains
chains_outlet s zero k x y small p q = step_outlet s (2 ^ k) x y small p q
chains_outlet s (suc l) zero x y small p q = tt
chains_outlet s (suc l) (suc k) x y small p q =
    (chains_outlet s l k (evens x) (evens y) small p.0 q.0, chains_outlet s l k (odds x) (odds y) small p.1 q.1)

chains_join : (l k : ℕ) (x y : ℕ → ℕ) → Chains l k x → Chains l k y → Chains (suc l) (suc k) (join x y)
unfolding Chains
chains_join l k x y p q = (
  chains_ext l k _ (evens (join x y)) (λ i m. ap₂ (λ s c. outlet s (x c + y c)) (omega arith) (omega arith)) (chains_outlet 0 l k x y (omega arith) p q),
  chains_ext l k _ (odds (join x y)) (λ i m. ap₂ (λ s c. outlet s (x c + y c)) (omega arith) (omega arith)) (chains_outlet 1 l k x y (omega arith) p q),
)

-- ---- Theorem 4.4: where all level l + 1 input chains of a block have the step property, all level l output chains have it
pub block_chains : (l k : ℕ) (x : ℕ → ℕ) → Chains (suc l) (suc k) x → Chains l (suc k) (passed Block (suc k) x)
unfolding Chains
block_chains zero k x c = block_step k x c.0 c.1
block_chains (suc l) zero x c = (chains_one l _, chains_one l _)
block_chains (suc l) (suc k) x c =
    chains_ext (suc l) (suc (suc k)) (join (passed Block (suc k) (cochain_a x)) (passed Block (suc k) (cochain_b x))) (passed Block (suc (suc k)) x)
    (passed_join Block k x (cochain_a x) (cochain_b x) (takes_block (2 ^ suc k) x))
    (chains_join l (suc k) (passed Block (suc k) (cochain_a x)) (passed Block (suc k) (cochain_b x))
    (block_chains l k (cochain_a x) (subst (Chains l k) (sym (evens_a x)) c.0.0, subst (Chains l k) (sym (odds_a x)) c.1.1))
    (block_chains l k (cochain_b x) (subst (Chains l k) (sym (evens_b x)) c.1.0, subst (Chains l k) (sym (odds_b x)) c.0.1)))

-- ---- PERIODIC[2^k], at each level: one block after another
abbrev pub at_level : ℕ → (ℕ → ℕ) → ℕ → ℕ → ℕ
at_level k = level_of (2 ^ k) (periodic k)

level_block : (k : ℕ) (x : ℕ → ℕ) → at_level (suc k) x (suc k) ≡ passed Block (suc k) x
unfolding periodic
level_block k x =
    flow_rows (2 ^ suc k) (λ L v. periodic (suc k) L v / 2) (λ L v. part Block (suc k) L v / 2) x (suc k)
    (λ L l. fun_ext (λ v. ap (λ n. part Block (suc k) n v / 2) (mod-eq_of_lt l)))

level_more : (l k : ℕ) (x : ℕ → ℕ) → at_level (suc k) x (suc l * suc k) ≡ at_level (suc k) (passed Block (suc k) x) (l * suc k)
unfolding periodic
level_more l k x =
    let more : suc l * suc k ≡ suc k + l * suc k = omega arith in
    ap (at_level (suc k) x) more ∙ flow_add (2 ^ suc k) (λ L v. periodic (suc k) L v / 2) x (suc k) (l * suc k)
    ∙ ap₂ (λ cell y. flow (2 ^ suc k) cell y (l * suc k)) (fun_ext (λ L. fun_ext (λ v. ap (λ n. part Block (suc k) n v / 2) (add-mod_left (suc k) L)))) (level_block k x)

blocks_step : (l k : ℕ) (x : ℕ → ℕ) → Chains l (suc k) x → Step (2 ^ suc k) (at_level (suc k) x (l * suc k))
unfolding Chains flow
blocks_step zero k x c = let none : 0 * suc k ≡ 0 = omega arith in subst (λ n. Step (2 ^ suc k) (at_level (suc k) x n)) (sym none) c
blocks_step (suc l) k x c = rw (level_more l k x) (blocks_step l k (passed Block (suc k) x) (block_chains l k x c))

-- PERIODIC[2^k], whatever comes: by k blocks from the wires one by one to all of them (000 says so before Lemma 4.3)
pub periodic_step : (k : ℕ) (x : ℕ → ℕ) → Step (2 ^ k) (at_level k x (depth_p k))
periodic_step zero x = λ i j l m. omega arith
periodic_step (suc k) x = blocks_step (suc k) k x (chains_all (suc k) x)
