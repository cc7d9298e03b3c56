-- `network::bitonic_row` meets its contract, by recursion on k. Assumes nothing.
use Rattle.network.proofs.+bitonic_row.Given as goal

abbrev pub decreases-bitonic_row : goal.decreases-bitonic_row
decreases-bitonic_row l = l.width.levels
