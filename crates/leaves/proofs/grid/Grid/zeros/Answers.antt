-- `leaves::grid::Grid::zeros` meets its contract: each row is zeros, and past the last one there is nothing. Assumes nothing.
use Rattle.leaves.proofs.Filling.{all_alike}
use Rattle.leaves.proofs.grid.Grid.zeros.Goals as goal

pub returns : goal.returns
returns c = λ i j. all_alike 37 64 i j 0
