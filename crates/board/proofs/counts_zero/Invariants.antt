-- `board::counts_zero` meets its contract. The invariant: what is found so far is so of the counts passed. Assumes nothing.
use mathlib.Core.Path.{◌≡◌}
use lib.ListN.{take}
use Rattle.std.specs.List.{list_all}
use Rattle.board.specs.Sound.{is_zero}
use Rattle.board.proofs.counts_zero.Given as goal

abbrev pub invariant-loop-c : goal.invariant-loop-c
invariant-loop-c l = l.ok ≡ list_all is_zero (take l.c-index l.c-items)
