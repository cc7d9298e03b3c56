-- `network::part_row` meets its contract, by recursion on k. Assumes nothing.
use Rattle.network.proofs.+part_row.Given as goal

abbrev pub decreases-part_row : goal.decreases-part_row
decreases-part_row l = l.width.levels
