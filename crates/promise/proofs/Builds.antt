-- Both builds, at every allowed width, are what the promises ask for: they fit the board, and at rest each exit has its share. Assumes nothing.
use Prim.Native.Nat.{ℕ, ◌/◌, ◌^◌, ◌<◌}
use mathlib.Core.Path.{◌≡◌, refl, ◌∙◌}
use native.Mathlib.Nat.{mul-le-mul}
use native.Mathlib.Omega.{arith}
use Rattle.network.specs.Widths.{open_no, levels, depth, depth_of}
use Rattle.network.specs.Wiring.{place}
use Rattle.network.specs.Rows.{place_of}
use Rattle.network.proofs.Widths.{width_power, width_small, width_some, depth_of_small, layered, allowed}
use Rattle.network.proofs.Rows.{place_of_below}
use Rattle.rest.specs.Sum.{only, sum}
use Rattle.rest.specs.Flow.{csum, flow}
use Rattle.rest.specs.Share.{share}
use Rattle.rest.proofs.Sum.{only_same, only_other, sum_change, sum_zero}
use Rattle.rest.proofs.Rest.{counts}
use Rattle.promise.proofs.Boards.{Layered}

-- wire v of level L feeds this cell
abbrev pub cell_of : ℕ → ℕ → ℕ → ℕ → ℕ
cell_of w c L v = place_of w c L v / 2

-- the wires of the last level are the exits
abbrev pub straight : ℕ → ℕ
straight v = v

csum_straight : (w : ℕ) (x : ℕ → ℕ) (i : ℕ) → i < w → csum w straight x i ≡ x i
unfolding csum
csum_straight w x i l =
    omega (
      arith,
      sum_zero w (λ v. 0) (λ v m. refl),
      only_same i i (x i) refl,
      sum_change w (λ v. 0) (λ v. only v i (x v)) i l (λ v m n. only_other v i (x v) n),
    )

module _ (w c : ℕ) (ok : open_no w c ≡ 0) where
  pub builds_fit : Layered w (depth_of w c) (place_of w c) straight
  builds_fit =
      let wide = (allowed w c ok).width in
      let most = width_small w wide in
      record {
        some = width_some w wide;
        most = most;
        room = mul-le-mul {n₁ = depth_of w c} {m₁ = w / 2} {n₂ = 36} {m₂ = 32} (depth_of_small w c) (omega arith);
        even = λ l. (layered w c 0 l).even;
        places = λ L v l m. place_of_below w c L l v m;
        exits = λ v m. m;
      }

  rest_shares : (k : ℕ) → w ≡ 2 ^ k → (x : ℕ → ℕ) (i : ℕ) → i < w
      → flow w (λ L v. place c k L v / 2) x (depth c k) i ≡ share (sum w x) i w
  rest_shares k e x i l = rw e ((counts c k).shares x i (rw e at l))

  -- at rest each exit has its share
  pub rest_exits : (x : ℕ → ℕ) (i : ℕ) → i < w → csum w straight (flow w (cell_of w c) x (depth_of w c)) i ≡ share (sum w x) i w
  unfolding place_of depth_of
  rest_exits x i l =
      csum_straight w (flow w (cell_of w c) x (depth_of w c)) i l
      ∙ rest_shares (levels w) (width_power w (allowed w c ok).width) x i l
