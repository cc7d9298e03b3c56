-- `console_run::moved` meets its contract: what is put is the answer. Assumes nothing.
use mathlib.Core.Path.{refl}
use Rattle.console_run.proofs.moved.Goals as goal

pub returns : goal.returns
returns g c = record { run_is = refl; puts = c.put_turn-end.ensures }
