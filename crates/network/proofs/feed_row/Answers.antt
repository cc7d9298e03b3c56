-- `network::feed_row` meets its contract: the array that the closure fills is the row's. Assumes nothing.
use Rattle.std.proofs.Common.{◌*◌, get_or, arith, rules}
use Rattle.network.specs.Wiring.{feed_at}
use Rattle.network.proofs.Arrays.{row→array}
use Rattle.network.proofs.feed_row.Goals as goal

pub returns : goal.returns
returns c =
    row→array (feed_at c.args.feed c.args.h (λ i. get_or c.args.inner i 0)) (2 * c.args.h) c.filled.result (omega arith) (search rules)
    (record { at = λ v l. let p = c.filled.ensures.front v l in search rules; rest = c.filled.ensures.rest })
