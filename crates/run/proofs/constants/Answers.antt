-- `run::constants` meets its contract: each constant is the number that the definitions write. Assumes nothing.
use mathlib.Core.Path.{refl}
use Rattle.network.specs.Widths.{width_ok, construction_ok}
use Rattle.network.specs.Wiring.{place}
use Rattle.network.proofs.Widths.{width_small}
use Rattle.board.specs.Sound.{few_entered}
use Rattle.run.proofs.constants.Goals as goal

pub returns : goal.returns
unfolding width_ok construction_ok place few_entered
returns c =
    record {
      allowed = refl;
      largest = width_small;
      most = λ x. refl;
      known = λ n. refl;
      builds_bitonic = λ k L v. refl;
      builds_periodic = λ k L v. refl;
    }
