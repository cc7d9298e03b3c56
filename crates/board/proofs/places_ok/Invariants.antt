-- `board::places_ok` meets its contract. The invariant: what is found so far is so of the places passed. Assumes nothing.
use mathlib.Core.Path.{◌≡◌}
use lib.ListN.{take}
use Rattle.std.specs.List.{list_all}
use Rattle.board.specs.Sound.{place_ok}
use Rattle.board.proofs.places_ok.Given as goal

abbrev pub invariant-loop-p : goal.invariant-loop-p
invariant-loop-p l = l.ok ≡ list_all (place_ok l.width l.depth) (take l.p-index l.places)
