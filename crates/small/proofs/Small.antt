-- A law of the small cabinet's polls. Assumes nothing.
use mathlib.Core.Path.{◌≡◌}
use mathlib.Core.Bool.{not}
use Prim.Native.Nat.{ℕ, ◌<◌}
use native.Mathlib.Omega.{arith}
use lib.Dec.{leb}
use borrow.Author.Tests.{leb-false, not-false}
use Rattle.order.proofs.Order.{cleared}
use Rattle.network.proofs.Widths.{width_small}
use Rattle.run.specs.Run.{sound}
use Rattle.run.proofs.Keeps.{parts}
use Rattle.small.specs.declared.Cabinet.{Cabinet}
use Rattle.small.specs.Small.{poll_no}

-- an exit that can be polled has a dial
pub has_dial : (x : Cabinet) (i : ℕ) → poll_no x i ≡ 0 → i < 64
unfolding poll_no
has_dial x i h =
    let nine = cleared (not (sound x.run)) 8 _ h in
    let five = cleared (leb x.run.width i) 4 _ nine.then in
    let good = not-false (sound x.run) nine.fails in
    omega (arith, width_small x.run.width (parts x.run good).width, leb-false x.run.width i five.fails)
