-- `leaves::leaf` meets its contract, leaf by leaf. Assumes nothing.
use Rattle.designs.specs.Leaves.{leaf_of}
use Rattle.designs.specs.Panels.{cell}
use Rattle.leaves.proofs.Laying.{read_made}
use Rattle.leaves.proofs.leaf.Goals as goal

pub returns-in-Cell : goal.returns-in-Cell
unfolding leaf_of
returns-in-Cell c = rw c.in-Cell.is (read_made cell c.put_cell.ensures)
