-- `console_run::held` meets its contract: the number put is that of the answer. Assumes nothing.
use mathlib.Core.Path.{refl}
use Rattle.console_run.proofs.held.Goals as goal

pub returns : goal.returns
returns g c = record { run_is = refl; puts = rw (← c.number_in.ensures) c.put_refusal-end.ensures }
