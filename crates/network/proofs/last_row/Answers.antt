-- `network::last_row` meets its contract: the array that the closure fills is the row's. Assumes nothing.
use Rattle.std.proofs.Common.{◌*◌, arith, rules}
use Rattle.network.specs.Wiring.{last_at}
use Rattle.network.proofs.Arrays.{row→array}
use Rattle.network.proofs.last_row.Goals as goal

pub returns : goal.returns
returns c =
    row→array (last_at c.args.h) (2 * c.args.h) c.filled.result (omega arith) (search rules)
    (record { at = λ v l. let p = c.filled.ensures.front v l in search rules; rest = c.filled.ensures.rest })
