-- The board as seen from outside, and its steps as steps of what is seen: at any width and depth, by any rows and exits that fit the
-- record. So each step of the board keeps what is kept. Assumes nothing.
use Prim.Native.Nat.{ℕ, ◌+◌, ◌*◌, ◌/◌, ◌≤◌, ◌<◌}
use mathlib.Core.Path.{◌≡◌, refl}
use mathlib.Core.Bool.{Bool, true, false, cond}
use mathlib.Core.List.{List, [], ◌∷◌, ◌++◌}
use native.Mathlib.Nat.{le_refl}
use native.Mathlib.Numerals.{add-one}
use native.Mathlib.Decide.{ℕ_discrete}
use native.Mathlib.Omega.{arith}
use lib.ListN.{set, get_or-replicate}
use Rattle.board.specs.declared.Place.{Place}
use Rattle.board.specs.declared.Board.{Board}
use Rattle.board.specs.Board.{free_place, fresh_board, place_at, count_at, cell_at, down_at}
use Rattle.board.specs.Sound.{sum_of, inside_one, inside_sum}
use Rattle.moves.specs.Enter.{at, entering}
use Rattle.moves.specs.Turn.{outlet_of, passing, number_at, dealing}
use Rattle.board.proofs.Lists.{sum_set, sum_replicate}
use Rattle.board.proofs.Sound.{Shaped}
use Rattle.moves.proofs.Keeps.{cell_below}
use Rattle.moves.proofs.Seen.{cell_apart, down_entering, count_entering, down_passing, down_passing_other, count_passing, down_dealing, count_dealing, count_dealing_other}
use Rattle.promise.specs.History.{Deal}
use Rattle.promise.proofs.Core.{Seen, one, one_here, one_level, one_wire, Opens, Enters, Passes, Deals}
use Rattle.promise.proofs.Kept.{Kept, kept_open, kept_enter, kept_pass, kept_deal}

-- 1 where a token's place is wire v of level L
abbrev on : ℕ → ℕ → Place → ℕ
on L v p = cond p.inside (one p.level p.wire L v) 0

abbrev pub seen_of : ℕ → Board → Seen
seen_of w x = record {
  down = down_at w x;
  count = count_at x;
  tokens = λ L v. sum_of (on L v) x.places;
  inside = inside_sum x;
  entered = x.entered;
}

-- the next number of exit i, dealt to token t
abbrev pub deal_at : ℕ → Board → ℕ → ℕ → Deal
deal_at w x t i = record { token = t; exit = i; number = number_at w i (count_at x i) }

-- a token's place is set: what a sum over the places changes by
placed : (f : Place → ℕ) (x : Board) (t : ℕ) (p : Place) → Shaped x → t < 256
    → sum_of f (set x.places t p) + f (place_at x t) ≡ sum_of f x.places + f p
unfolding place_at
placed f x t p s l = sum_set free_place f x.places t p (omega (arith, s.places))

-- with none inside, no token is
pub none_inside : (x : Board) (t : ℕ) → Shaped x → t < 256 → inside_sum x ≡ 0 → inside_one (place_at x t) ≡ 0
unfolding inside_sum
none_inside x t s l z = omega (arith, placed inside_one x t free_place s l)

-- and none is on any wire
one_le : (L v K u : ℕ) → one L v K u ≤ 1
one_le L v K u = elim (ℕ_discrete K L) [
  | yes e ↦ elim (ℕ_discrete u v) [ yes f ↦ omega (arith, one_here L v K u e f) | no n ↦ omega (arith, one_wire L v K u n) ]
  | no n ↦ omega (arith, one_level L v K u n)
]

on_le : (L v : ℕ) (p : Place) (b : Bool) → cond b (one p.level p.wire L v) 0 ≤ cond b 1 0
on_le L v p true = one_le p.level p.wire L v
on_le L v p false = le_refl 0

sum_of_mono : {A : Type 0} (f g : A → ℕ) → ((a : A) → f a ≤ g a) → (l : List A) → sum_of f l ≤ sum_of g l
unfolding sum_of
sum_of_mono f g h [] = le_refl 0
sum_of_mono f g h (a ∷ l) = omega (arith, h a, sum_of_mono f g h l)

pub none_on : (x : Board) (L v : ℕ) → inside_sum x ≡ 0 → (seen_of 0 x).tokens L v ≡ 0
unfolding inside_sum
none_on x L v z = omega (arith, sum_of_mono (on L v) inside_one (λ p. on_le L v p p.inside) x.places)

-- what is asked of a network that runs on a board
pub record Fits (w d : ℕ) (cell : ℕ → ℕ → ℕ) (exit : ℕ → ℕ) : Type 0 where
  pub some : 0 < w
  pub most : w ≤ 64
  pub room : d * (w / 2) ≤ 1152
  pub cells : (L v : ℕ) → L < d → v < w → cell L v < w / 2
  pub exits : (v : ℕ) → v < w → exit v < w

module _ {w d : ℕ} {cell : ℕ → ℕ → ℕ} {exit : ℕ → ℕ} (f : Fits w d cell exit) where
  fresh_opens : Opens w d cell exit (seen_of w fresh_board)
  unfolding fresh_board down_at count_at inside_sum
  fresh_opens = record {
    downs = λ L c l m. get_or-replicate 1152 (cell_at w L c) false false (omega (arith, cell_below w d L c l m, f.room));
    counts = λ i l. get_or-replicate {A = ℕ} 64 i 0 0 (omega (arith, f.most));
    moves = λ L v. sum_replicate (on L v) free_place 256 refl;
    insides = sum_replicate inside_one free_place 256 refl;
    entries = refl;
  }

  pub kept_fresh : Kept w d cell exit (seen_of w fresh_board) (λ u. 0) []
  kept_fresh = kept_open w d cell exit f.some (seen_of w fresh_board) fresh_opens

  module _ {x : Board} (s : Shaped x) (t : ℕ) (token : t < 256) where
    entering_enters : (v : ℕ) → v < w → (place_at x t).inside ≡ false → Enters w d cell exit (seen_of w x) (seen_of w (entering x t v)) v
    unfolding entering inside_sum
    entering_enters v l free = record {
      wire = l;
      downs = λ L c m k. down_entering x t v w L c;
      counts = λ i m. count_entering x t v i;
      moves = λ L u. omega (arith, rw free at (placed (on L u) x t (at 0 v) s token));
      insides = omega (arith, rw free at (placed inside_one x t (at 0 v) s token));
      entries = refl;
    }

    pub kept_entering : {entries : ℕ → ℕ} {dealt : List Deal} → Kept w d cell exit (seen_of w x) entries dealt
        → (v : ℕ) → v < w → (place_at x t).inside ≡ false
        → Kept w d cell exit (seen_of w (entering x t v)) (λ u. entries u + one 0 v 0 u) dealt
    kept_entering {entries} {dealt} k v l free =
        kept_enter w d cell exit f.some (seen_of w x) _ v entries dealt (entering_enters v l free) k

    module _ (inside : (place_at x t).inside ≡ true) (wire : (place_at x t).wire < w) where
      passing_passes : (feeds : ℕ) → (place_at x t).level < d → cell (place_at x t).level (place_at x t).wire ≡ feeds / 2
          → Passes w d cell exit (seen_of w x) (seen_of w (passing w x t feeds).board) (place_at x t).level (place_at x t).wire
      unfolding passing inside_sum
      passing_passes feeds l row =
          let L = (place_at x t).level in
          let c = feeds / 2 in
          let fits : c < w / 2 = rw (← row) (f.cells L (place_at x t).wire l wire) in
          let new : Place = at (L + 1) (2 * c + outlet_of (down_at w x L c)) in
          record {
            level = l;
            wire = wire;
            flips = rw row (down_passing w x t feeds s (omega (arith, cell_below w d L c l fits, f.room)));
            downs = λ K b k n apart. down_passing_other w x t feeds K b (λ q. apart (rw row (cell_apart w K b L c n fits q)));
            counts = λ i k. count_passing w x t feeds i;
            moves = λ K u. rw (row, ← add-one L) (rw inside at (placed (on K u) x t new s token));
            insides = omega (arith, rw inside at (placed inside_one x t new s token));
            entries = refl;
          }

      -- the token's wire feeds the cell of its row
      pub kept_passing : {entries : ℕ → ℕ} {dealt : List Deal} → Kept w d cell exit (seen_of w x) entries dealt
          → (feeds : ℕ) → (place_at x t).level < d → cell (place_at x t).level (place_at x t).wire ≡ feeds / 2
          → Kept w d cell exit (seen_of w (passing w x t feeds).board) entries dealt
      kept_passing {entries} {dealt} k feeds l row =
          kept_pass w d cell exit f.some f.cells (seen_of w x) _ _ _ entries dealt (passing_passes feeds l row) k

      dealing_deals : (place_at x t).level ≡ d
          → Deals w d cell exit (seen_of w x) (seen_of w (dealing w x t (exit (place_at x t).wire)).board) (place_at x t).wire
      unfolding dealing inside_sum
      dealing_deals last =
          let i = exit (place_at x t).wire in
          record {
            wire = wire;
            downs = λ L c k n. down_dealing w x t i L c;
            raised = count_dealing w x t i s (omega (arith, f.exits (place_at x t).wire wire, f.most));
            counts = λ j k n. count_dealing_other w x t i j n;
            moves = λ K u. omega (arith, rw (inside, last) at (placed (on K u) x t free_place s token));
            insides = omega (arith, rw inside at (placed inside_one x t free_place s token));
            entries = refl;
          }

      -- at the last level the token's wire goes to its exit
      pub kept_dealing : {entries : ℕ → ℕ} {dealt : List Deal} → Kept w d cell exit (seen_of w x) entries dealt → (place_at x t).level ≡ d
          → Kept w d cell exit (seen_of w (dealing w x t (exit (place_at x t).wire)).board) entries (dealt ++ (deal_at w x t (exit (place_at x t).wire) ∷ []))
      kept_dealing {entries} {dealt} k last =
          kept_deal w d cell exit f.some (seen_of w x) _ (place_at x t).wire entries dealt _ (f.exits _ wire) refl refl (dealing_deals last) k
