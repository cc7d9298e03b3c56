-- `network::part_place` meets its contract, by recursion on k. Assumes nothing.
use Rattle.network.proofs.+part_place.Given as goal

abbrev pub decreases-part_place : goal.decreases-part_place
decreases-part_place l = l.width.levels
