-- `network::bitonic_place` meets its contract, by recursion on k. Assumes nothing.
use Rattle.network.proofs.+bitonic_place.Given as goal

abbrev pub decreases-bitonic_place : goal.decreases-bitonic_place
decreases-bitonic_place l = l.width.levels
