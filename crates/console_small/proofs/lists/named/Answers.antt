-- `console_small::lists::named` meets its contract. The invariant: the first k entries are stored. Assumes nothing.
use mathlib.Core.Path.{sym}
use mathlib.Core.List.{[]}
use Prim.Native.Nat.{◌<◌, ◌≤◌}
use native.Mathlib.Omega.{arith}
use lib.ListN.{length, replicate}
use lib.Seq.{take_all}
use Rattle.std.proofs.lemmas.List.Sums.{fold_more}
use Rattle.console_lines.specs.Marked.{parts_of, part_at, part_count}
use Rattle.console_small.specs.Named.{stored}
use Rattle.console_small.proofs.lists.named.Goals as goal

pub loop-k-preserved : goal.loop-k-preserved
unfolding part_count part_at
loop-k-preserved g c =
    let l = c.loop-k in
    let entries = parts_of 44 c.args.text.now in
    let there : l.k < length entries = omega (arith, c.count-k-end.ensures.whole, c.loop-k-test.true) in
    rw (c.stored-values.ensures, c.part.ensures, l.invariant)
    (sym (fold_more (λ values entry. stored g.T.FromText.value values entry) (replicate 64 c.args.blank) entries l.k [] there))

pub returns : goal.returns
unfolding part_count
returns g c =
    let l = c.loop-k in
    let entries = parts_of 44 c.args.text.now in
    let all : length entries ≤ l.k = omega (arith, c.count-k-end.ensures.whole, c.loop-k-test.false) in
    rw (l.invariant, take_all _ entries all)
