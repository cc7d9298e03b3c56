-- What the constants of a run are (01, "What the cabinet's software holds"): the limits of the definitions. Statements only.
-- Assumes nothing.
use Rattle.std.specs.Prelude.{ℕ, ◌≤◌, ◌≡◌, true, ◌||◌, eqb, leb}
use Rattle.network.specs.Widths.{width_ok, construction_ok}
use Rattle.network.specs.Wiring.{bitonic, periodic, place}
use Rattle.board.specs.declared.Board.{Board}
use Rattle.board.specs.Sound.{few_entered}
use Rattle.run.specs.declared.Limits.{Limits}

pub record LimitsAre (r : Limits) : Type 0 where
  -- the largest width that is allowed
  pub allowed : width_ok r.width ≡ true
  pub largest : (w : ℕ) → width_ok w ≡ true → w ≤ r.width
  -- entries in one run
  pub most : (x : Board) → few_entered x ≡ leb x.entered r.entered
  -- the construction numbers, and what each builds
  pub known : (c : ℕ) → construction_ok c ≡ eqb c r.bitonic || eqb c r.periodic
  pub builds_bitonic : (k L v : ℕ) → place r.bitonic k L v ≡ bitonic k L v
  pub builds_periodic : (k L v : ℕ) → place r.periodic k L v ≡ periodic k L v
