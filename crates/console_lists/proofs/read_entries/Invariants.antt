-- `console_lists::read_entries` meets its contract. The invariant: the parts that are left decide whether all are entries, and what
-- has entered stays. Assumes nothing.
use mathlib.Core.Path.{◌≡◌}
use lib.ListN.{length, drop}
use Rattle.console_lines.specs.Marked.{parts_of}
use Rattle.console_lists.specs.Lists.{are_entries}
use Rattle.console_lists.proofs.read_entries.Given as goal

abbrev pub invariant-loop-part : goal.invariant-loop-part
invariant-loop-part l = record {
  decides : are_entries l.kind (parts_of 44 l.fn.text) 0 ≡ are_entries l.kind (drop (length l.yielded) (parts_of 44 l.fn.text)) l.least;
  entered : l.board.entered ≡ l.initial.board.entered;
}
