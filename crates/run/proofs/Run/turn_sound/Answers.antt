-- `run::Run::turn_sound` meets its contract: a token that may turn stands where a sound run has its tokens. Assumes nothing.
use borrow.Author.Rules.{rules}
use mathlib.Core.Path.{◌≡◌, refl}
use Prim.Native.Nat.{◌<◌}
use native.Mathlib.Omega.{arith}
use lib.ListN.{length}
use Rattle.network.specs.Widths.{depth_of}
use Rattle.network.proofs.Rows.{place_of_below}
use Rattle.board.specs.Board.{place_at}
use Rattle.board.proofs.Lists.{mapped}
use Rattle.run.proofs.Calls.{stands}
use Rattle.run.proofs.Run.turn_sound.Goals as goal

-- a place in a layer lies below the width, so it fits a byte
pub overflow_cast-feeds : goal.overflow_cast-feeds
unfolding place_at
overflow_cast-feeds c =
    let r = c.args.self in
    let long : length r.board.places ≡ 256 = search (rules, mapped) in
    let at = stands _ _ c.requires _ c.place_at-place.ensures _ c.in_default.ensures refl long in
    let layer : c.place_at-place.result.level < depth_of r.width r.construction = omega (arith, c.depth_of-depth.ensures) in
    omega (arith, c.place_of-feeds.ensures, place_of_below _ _ _ layer _ at.wire, at.width)

pub deal-moved-requires : goal.deal-moved-requires
unfolding place_at
deal-moved-requires c =
    let long : length c.args.self.board.places ≡ 256 = search (rules, mapped) in
    let at = stands _ _ c.requires _ c.place_at-place.ensures _ c.in_default.ensures refl long in
    (at.token, (at.width, at.count _))
