-- `network::filled` meets its contract: the bytes passed are the closure's, and zeros stand after them. Assumes nothing.
use Rattle.std.proofs.Common.{refl, arith}
use Rattle.network.proofs.Arrays.{get_or_zeros}
use Rattle.network.proofs.filled.Goals as goal

pub loop-v-init : goal.loop-v-init
loop-v-init g c = record { long = refl; front = λ k l. absurd (omega arith); rest = λ k l. get_or_zeros 64 k }
