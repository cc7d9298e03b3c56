-- `network::Width::half` meets its contract: a width of at most 6 levels is at most 64. Assumes nothing.
use Rattle.std.proofs.Common.{◌^◌, ◌≤◌, arith}
use Rattle.std.proofs.Math.Pow.{pow_mono}
use Rattle.network.proofs.Width.half.Goals as goal

pub returns-clause-low : goal.returns-clause-low
returns-clause-low c =
    let most : 2 ^ c.args.self.levels ≤ 2 ^ 6 = pow_mono c.args.self.few in
    omega (arith, c.args.self.power)
