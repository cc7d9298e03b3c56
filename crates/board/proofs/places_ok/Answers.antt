-- `board::places_ok` meets its contract. The invariant: what is found so far is so of the places passed. Assumes nothing.
use native.Mathlib.Omega.{arith}
use Rattle.board.specs.Sound.{place_ok}
use Rattle.board.proofs.Lists.{all_taken}
use Rattle.board.proofs.places_ok.Goals as goal

pub returns : goal.returns
returns c =
    let a = c.args in
    all_taken a.places.now _ (omega (arith, c.told-places)) (place_ok a.width a.depth) _ c.loop-p.invariant
