-- Small cases, by computing: shares (01, small fact 9), and exits of both builds at width 4.
-- Assumes nothing.
use Prim.Native.Nat.{ℕ}
use mathlib.Core.Path.{◌≡◌, refl}
use mathlib.Core.List.{List, [], ◌∷◌}
use lib.ListN.{get_or}
use Rattle.network.specs.Wiring.{feed_at, part, bitonic, periodic, place}
use Rattle.network.specs.Rows.{tabulate}
use Rattle.rest.specs.Sum.{only, sum}
use Rattle.rest.specs.Flow.{csum, layer, flow}
use Rattle.rest.specs.Share.{share}
use Rattle.rest.specs.Rest.{exits}

-- fact 9: m = 0, every share 0 (at every width: `share_zero`); m = 5, w = 4
pub shares_none : tabulate (λ i. share 0 i 4) 4 ≡ 0 ∷ 0 ∷ 0 ∷ 0 ∷ []
unfolding tabulate share
shares_none = refl

pub shares_five : tabulate (λ i. share 5 i 4) 4 ≡ 2 ∷ 1 ∷ 1 ∷ 1 ∷ []
unfolding tabulate share
shares_five = refl

-- the exits of construction c at width 4, of entry counts in a list
abbrev exits_of : ℕ → List ℕ → List ℕ
exits_of c entries = tabulate (exits c 2 (λ v. get_or entries v 0)) 4

-- five on wire 3
exits_five : (exits_of 1 (0 ∷ 0 ∷ 0 ∷ 5 ∷ []) ≡ 2 ∷ 1 ∷ 1 ∷ 1 ∷ []) × (exits_of 2 (0 ∷ 0 ∷ 0 ∷ 5 ∷ []) ≡ 2 ∷ 1 ∷ 1 ∷ 1 ∷ [])
unfolding tabulate flow layer csum sum only place bitonic periodic part feed_at
exits_five = (refl, refl)

-- one on each half, and both on one wire
exits_two : (exits_of 1 (0 ∷ 1 ∷ 0 ∷ 1 ∷ []) ≡ 1 ∷ 1 ∷ 0 ∷ 0 ∷ []) × (exits_of 2 (0 ∷ 0 ∷ 0 ∷ 2 ∷ []) ≡ 1 ∷ 1 ∷ 0 ∷ 0 ∷ [])
unfolding tabulate flow layer csum sum only place bitonic periodic part feed_at
exits_two = (refl, refl)
