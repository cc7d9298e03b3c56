-- `console_small::lists::named` meets its contract. The invariant: the first k entries are stored. Assumes nothing.
use mathlib.Core.Path.{◌≡◌}
use lib.ListN.{take, replicate}
use Rattle.std.proofs.Common.{fold}
use Rattle.console_lines.specs.Marked.{parts_of}
use Rattle.console_small.specs.Named.{stored}
use Rattle.console_small.proofs.lists.named.Given as goal

abbrev pub invariant-loop-k : goal.invariant-loop-k
invariant-loop-k g l =
    l.values ≡ fold (λ values entry. stored g.T.FromText.value values entry) (replicate 64 l.fn.blank) (take l.k (parts_of 44 l.text))
