-- `board::dealt_sum` meets its contract: 64 counts of 32 bits do not wrap. Assumes nothing.
use mathlib.Core.Path.{◌≡◌, ◌∙◌, sym}
use native.Mathlib.Omega.{arith}
use Rattle.std.proofs.Common.{rules}
use Rattle.std.specs.List.{sum}
use Rattle.std.proofs.iter.runs.Made.{chains}
use Rattle.std.proofs.iter.runs.Sources.{sums}
use Rattle.board.specs.Sound.{sum_of, itself}
use Rattle.board.proofs.Lists.{sum_of_is, sum_le}
use Rattle.board.proofs.dealt_sum.Goals as goal

pub sum-requires-clause-fits : goal.sum-requires-clause-fits
sum-requires-clause-fits c = search (rules, sums)

pub returns : goal.returns
returns c =
    let l = c.args.counts.now in
    let e : c.sum.result ≡ sum l = search (rules, chains) in
    let f : c.sum.result ≡ sum_of itself l = e ∙ sym (sum_of_is itself l) in
    (f, omega (arith, sum_le 4294967295 l (λ i. omega (arith, c.fits-counts i))))
