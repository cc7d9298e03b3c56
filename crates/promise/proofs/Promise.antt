-- Demand 3: `demand_3`. No exit has dealt more than it does at rest, where each has its share; the totals give the shortfalls; the
-- numbers follow from the counts. Assumes nothing.
use Prim.Native.Nat.{ℕ, ◌-◌, ◌/◌, ◌%◌, ◌≤◌, ◌<◌}
use mathlib.Core.Path.{◌≡◌, ap, ◌∙◌}
use mathlib.Core.List.{List}
use native.Mathlib.Nat.{le_trans, mod-lt}
use native.Mathlib.Decide.{dec_lt}
use native.Mathlib.Omega.{arith}
use Rattle.network.specs.Widths.{depth_of}
use Rattle.rest.specs.Sum.{sum}
use Rattle.rest.specs.Flow.{csum, flow}
use Rattle.rest.specs.Share.{share}
use Rattle.rest.proofs.Sum.{sum_minus, term_le_sum}
use Rattle.rest.proofs.Share.{sum_share, below_share, share_below}
use Rattle.board.specs.declared.Board.{Board}
use Rattle.board.specs.Board.{count_at}
use Rattle.board.specs.Sound.{inside_sum}
use Rattle.run.specs.declared.Run.{Run}
use Rattle.run.specs.Run.{depth_in}
use Rattle.promise.specs.History.{Deal, entered_on}
use Rattle.promise.specs.Promise.{Promise, Demand3}
use Rattle.promise.proofs.Core.{count_le_flow}
use Rattle.promise.proofs.Book.{below_yes, below_no}
use Rattle.promise.proofs.Kept.{Kept}
use Rattle.promise.proofs.Record.{seen_of}
use Rattle.promise.proofs.Builds.{cell_of, straight, builds_fit, rest_exits}
use Rattle.promise.proofs.Reached.{Reached, history_reached, history_width}

-- a layered network in which at rest each exit has its share
module _ (w d : ℕ) (cell : ℕ → ℕ → ℕ) (exit : ℕ → ℕ) (pos : 0 < w)
    (at_rest : (x : ℕ → ℕ) (i : ℕ) → i < w → csum w exit (flow w cell x d) i ≡ share (sum w x) i w) where
  module _ (x : Board) (entries : ℕ → ℕ) (dealt : List Deal) (k : Kept w d cell exit (seen_of w x) entries dealt) where
    abbrev m : ℕ
    m = x.entered

    count_le_share : (i : ℕ) → i < w → count_at x i ≤ share m i w
    count_le_share i l =
        let e : share (sum w entries) i w ≡ share m i w = ap (λ n. share n i w) k.balanced.entries in
        omega (arith, count_le_flow w d cell exit (seen_of w x) entries k.gone k.balanced i l, at_rest entries i l)

    short : sum w (λ i. share m i w - count_at x i) ≡ inside_sum x
    short =
        omega (arith, sum_minus w (λ i. share m i w) (count_at x) count_le_share, k.balanced.total, sum_share w pos m)

    pub kept_promise : Promise w x dealt
    kept_promise = record {
      at_most = count_le_share;
      shortfalls = short;
      once = λ v. elim (dec_lt (v / w) (count_at x (v % w))) [
        | yes h ↦ omega (arith, k.book v, below_yes (v / w) (count_at x (v % w)) h)
        | no h ↦ omega (arith, k.book v, below_no (v / w) (count_at x (v % w)) (omega arith))
      ];
      below = λ v p. elim (dec_lt (v / w) (count_at x (v % w))) [
        | yes h ↦ below_share w pos m v (le_trans h (count_le_share (v % w) (mod-lt v pos)))
        | no h ↦ omega (arith, k.book v, below_no (v / w) (count_at x (v % w)) (omega arith))
      ];
      at_rest = λ z v l.
          let most : share m (v % w) w - count_at x (v % w) ≤ sum w (λ i. share m i w - count_at x i)
          = term_le_sum w (λ i. share m i w - count_at x i) (v % w) (mod-lt v pos) in
          k.book v ∙ below_yes (v / w) (count_at x (v % w)) (omega (arith, most, short, share_below w pos m v l));
    }

pub reached_promise : {x : Run} {dealt : List Deal} → Reached x dealt → Promise x.width x.board dealt
unfolding depth_in
reached_promise {x} {dealt} r =
    let w = x.width in
    let c = x.construction in
    kept_promise w (depth_of w c) (cell_of w c) straight (builds_fit w c r.allowed).some (rest_exits w c r.allowed)
    x.board (λ v. entered_on v r.entries) dealt r.keeping.kept

pub demand_3 : Demand3
demand_3 = record {
  holds = λ w c calls ok. rw (history_width w c ok calls) at (reached_promise (history_reached w c ok calls));
}
