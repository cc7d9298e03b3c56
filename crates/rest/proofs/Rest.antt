-- Both builds count at every width.
-- Assumes nothing.
use Prim.Native.Nat.{ℕ, zero, suc, ◌/◌, ◌^◌}
use mathlib.Core.Path.{◌≡◌, refl, ap, ◌∙◌}
use mathlib.Core.Bool.{Bool, true, false, cond}
use native.Mathlib.Nat.{pow-succ'}
use native.Mathlib.Omega.{arith}
use lib.Dec.{eqb}
use lib.Pow.{pow_pos}
use Rattle.network.specs.Widths.{depth, depth_b, depth_p}
use Rattle.network.specs.Wiring.{place, bitonic, periodic}
use Rattle.network.proofs.Once.{once}
use Rattle.rest.specs.Sum.{sum}
use Rattle.rest.specs.Flow.{flow}
use Rattle.rest.specs.Share.{share}
use Rattle.rest.specs.Rest.{Step, exits, Counts}
use Rattle.rest.proofs.Flow.{flow_mono, sum_flow}
use Rattle.rest.proofs.Step.{step→share}
use Rattle.rest.proofs.Bitonic.{bitonic_step}
use Rattle.rest.proofs.Periodic.{periodic_step}

exits_step : (c k : ℕ) (x : ℕ → ℕ) → Step (2 ^ k) (exits c k x)
unfolding place
exits_step c k x = either (eqb c 1)
  where
    either : (t : Bool) → Step (2 ^ k) (flow (2 ^ k) (λ L v. cond t (bitonic k L v) (periodic k L v) / 2) x (cond t (depth_b k) (depth_p k)))
    either true = bitonic_step k x
    either false = periodic_step k x

exits_kept : (c k : ℕ) (x : ℕ → ℕ) → sum (2 ^ k) (exits c k x) ≡ sum (2 ^ k) x
unfolding flow
exits_kept c zero x = none (eqb c 1)
  where
    none : (t : Bool) → sum 1 (flow 1 (λ L v. place c 0 L v / 2) x (cond t (depth_b 0) (depth_p 0))) ≡ sum 1 x
    none true = refl
    none false = refl
exits_kept c (suc k) x =
    sum_flow (2 ^ k) (2 ^ suc k) (λ L v. place c (suc k) L v / 2) x (depth c (suc k)) (pow-succ' 2 k)
    (λ L v l m. omega (arith, (once c (suc k) L).below v m))

-- for every number c: any but 1 reads as periodic
pub counts : (c k : ℕ) → Counts c k
counts c k = record {
  shares = λ x i l. step→share (2 ^ k) (pow_pos k) (exits c k x) (exits_step c k x) i l ∙ ap (λ m. share m i (2 ^ k)) (exits_kept c k x);
  step = exits_step c k;
  kept = exits_kept c k;
  more = λ x y h i l. flow_mono (2 ^ k) (λ L v. place c k L v / 2) x y h (depth c k) i l;
}
