-- A board's steps keep its shape and its soundness. In order: entering, passing and dealing keep the arrays' lengths; a cell's place
-- among the toggles; the three steps keep a sound board sound; so do the calls, refused or not. Assumes nothing.
use mathlib.Core.Path.{◌≡◌, refl}
use mathlib.Core.Bool.{Bool, true, false, not}
use Prim.Native.Nat.{ℕ, ◌+◌, ◌*◌, ◌/◌, ◌<◌, ◌≤◌}
use native.Mathlib.Nat.{mul-le-mul_right, add-mul, one-mul}
use native.Mathlib.Omega.{arith}
use lib.Dec.{eqb, ltb, lit≤}
use lib.ListN.{get_or, length-set}
use lib.Seq.{drop-set-lt}
use borrow.Author.Tests.{le-leb, lt-ltb, ltb-true, eqb-true}
use Rattle.board.specs.declared.Place.{Place}
use Rattle.board.specs.declared.Board.{Board}
use Rattle.board.specs.Board.{free_place, place_at, count_at, cell_at, down_at}
use Rattle.board.specs.Sound.{place_ok, places_ok, counts_beyond, toggles_beyond, itself, dealt_sum, inside_one, inside_sum, sound_board}
use Rattle.moves.specs.Enter.{at, enter_no, entering, enter_with}
use Rattle.moves.specs.Turn.{turn_no, outlet_of, Moved, passing, dealing, turn_with}
use Rattle.board.proofs.Lists.{cond_case, all_set, sum_set}
use Rattle.board.proofs.Sound.{Shaped, parts, whole, inside_at}
use Rattle.moves.proofs.Refusals.{CanEnter, can_enter, CanTurn, can_turn}

-- ---- shapes
module _ (x : Board) (s : Shaped x) where
  pub shaped_entering : (t v : ℕ) → Shaped (entering x t v)
  unfolding entering
  shaped_entering t v = record { counts = s.counts; toggles = s.toggles; places = simp length-set s.places }

  pub shaped_passing : (w t feeds : ℕ) → Shaped (passing w x t feeds).board
  unfolding passing
  shaped_passing w t feeds =
      record { counts = s.counts; toggles = simp length-set s.toggles; places = simp length-set s.places }

  pub shaped_dealing : (w t i : ℕ) → Shaped (dealing w x t i).board
  unfolding dealing
  shaped_dealing w t i =
      record { counts = simp length-set s.counts; toggles = s.toggles; places = simp length-set s.places }

  pub shaped_enter : (good : Bool) (w t v : ℕ) → Shaped (enter_with good w x t v).board
  unfolding enter_with
  shaped_enter good w t v = cond_case Shaped (eqb (enter_no good w x t v) 0) (entering x t v) x (λ _. shaped_entering t v) (λ _. s)

  pub shaped_turn : (good : Bool) (w d t feeds exit : ℕ) → Shaped (turn_with good w d x t feeds exit).board
  unfolding turn_with
  shaped_turn good w d t feeds exit =
      cond_case (λ (m : Moved). Shaped m.board) (eqb (turn_no good x t) 0) _ _
      (λ _.
      cond_case (λ (m : Moved). Shaped m.board) (ltb (place_at x t).level d) _ _ (λ _. shaped_passing w t feeds) (λ _. shaped_dealing w t exit))
      (λ _. s)

-- ---- a cell of a layer below the depth is one of the d · w/2 cells
pub cell_below : (w d L c : ℕ) → L < d → c < w / 2 → cell_at w L c < d * (w / 2)
cell_below w d L c l h =
    omega (arith, mul-le-mul_right {m = L + 1} {n = d} (w / 2) (omega arith), add-mul L 1 (w / 2), one-mul (w / 2))

outlet_le : (b : Bool) → outlet_of b ≤ 1
outlet_le true = lit≤ tt
outlet_le false = lit≤ tt

-- ---- a sound board stays sound
pub entering_sound : (good : Bool) (w d : ℕ) (x : Board) (t v : ℕ) → Shaped x → CanEnter good w x t v → sound_board w d x ≡ true → sound_board w d (entering x t v) ≡ true
unfolding entering place_at places_ok counts_beyond toggles_beyond dealt_sum inside_sum
entering_sound good w d x t v s can h =
    let p = parts w d x h in
    let sums = sum_set free_place inside_one x.places t (at 0 v) (omega (arith, s.places, can.token)) in
    let was : inside_one (get_or x.places t free_place) ≡ 0 = rw can.free in
    whole w d (entering x t v)
    (record {
      few = omega (arith, can.room, p.few);
      places =
          all_set (place_ok w d) x.places t (at 0 v) p.places (rw (le-leb 0 d (omega arith), lt-ltb v w can.wire));
      counts = p.counts;
      toggles = p.toggles;
      adds = omega (arith, sums, was, p.adds);
    })

pub passing_sound : (good : Bool) (w d : ℕ) (x : Board) (t feeds : ℕ) → Shaped x → CanTurn good x t → w ≡ 2 * (w / 2) → feeds < w → (place_at x t).level < d → sound_board w d x ≡ true → sound_board w d (passing w x t feeds).board ≡ true
unfolding passing place_at down_at places_ok counts_beyond toggles_beyond dealt_sum inside_sum
passing_sound good w d x t feeds s can even below l h =
    let p = parts w d x h in
    let L = (get_or x.places t free_place).level in
    let c = feeds / 2 in
    let down = get_or x.toggles (cell_at w L c) false in
    let v = 2 * c + outlet_of down in
    let sums = sum_set free_place inside_one x.places t (at (L + 1) v) (omega (arith, s.places, can.token)) in
    let was : inside_one (get_or x.places t free_place) ≡ 1 = rw can.inside in
    let out : v < w = omega (arith, outlet_le down) in
    whole w d (passing w x t feeds).board
    (record {
      few = p.few;
      places =
          all_set (place_ok w d) x.places t (at (L + 1) v) p.places (rw (le-leb (L + 1) d (omega arith), lt-ltb v w out));
      counts = p.counts;
      toggles = rw (drop-set-lt (d * (w / 2)) x.toggles (cell_at w L c) (not down) (cell_below w d L c l (omega arith))) p.toggles;
      adds = omega (arith, sums, was, p.adds);
    })

pub dealing_sound : (good : Bool) (w d : ℕ) (x : Board) (t i : ℕ) → Shaped x → CanTurn good x t → w ≤ 64 → i < w → sound_board w d x ≡ true → sound_board w d (dealing w x t i).board ≡ true
unfolding dealing place_at count_at places_ok counts_beyond toggles_beyond dealt_sum inside_sum
dealing_sound good w d x t i s can most is-exit h =
    let p = parts w d x h in
    let n = get_or x.counts i 0 in
    let sums = sum_set free_place inside_one x.places t free_place (omega (arith, s.places, can.token)) in
    let more = sum_set 0 itself x.counts i (n + 1) (omega (arith, s.counts)) in
    let was : inside_one (get_or x.places t free_place) ≡ 1 = rw can.inside in
    whole w d (dealing w x t i).board
    (record {
      few = p.few;
      places = all_set (place_ok w d) x.places t free_place p.places refl;
      counts = rw (drop-set-lt w x.counts i (n + 1) is-exit) p.counts;
      toggles = p.toggles;
      adds = omega (arith, sums, more, was, p.adds);
    })

-- ---- the calls
pub enter_sound : (good : Bool) (w d : ℕ) (x : Board) (t v : ℕ) → Shaped x → sound_board w d x ≡ true → sound_board w d (enter_with good w x t v).board ≡ true
unfolding enter_with
enter_sound good w d x t v s h =
    let n = enter_no good w x t v in
    cond_case (λ (y : Board). sound_board w d y ≡ true) (eqb n 0) (entering x t v) x
    (λ e. entering_sound good w d x t v s (can_enter good w x t v (eqb-true n 0 e)) h)
    (λ _. h)

-- what a network says of the wire of a token inside: the place that it feeds below the depth, and its exit
pub record Leads (w d : ℕ) (p : Place) (feeds exit : ℕ) : Type 0 where
  pub most : w ≤ 64
  pub even : p.level < d → w ≡ 2 * (w / 2)
  pub place : p.level < d → p.wire < w → feeds < w
  pub out : p.wire < w → exit < w

pub turn_sound : (good : Bool) (w d : ℕ) (x : Board) (t feeds exit : ℕ) → Shaped x → Leads w d (place_at x t) feeds exit → sound_board w d x ≡ true → sound_board w d (turn_with good w d x t feeds exit).board ≡ true
unfolding turn_with
turn_sound good w d x t feeds exit s leads h =
    let n = turn_no good x t in
    let L = (place_at x t).level in
    cond_case (λ (m : Moved). sound_board w d m.board ≡ true) (eqb n 0) _ _
    (λ e.
    let can = can_turn good x t (eqb-true n 0 e) in
    let stands = inside_at w d x t s.places h can.token can.inside in
    cond_case (λ (m : Moved). sound_board w d m.board ≡ true) (ltb L d) _ _
    (λ b. passing_sound good w d x t feeds s can (leads.even (ltb-true L d b)) (leads.place (ltb-true L d b) stands.wire) (ltb-true L d b) h)
    (λ _. dealing_sound good w d x t exit s can leads.most (leads.out stands.wire) h))
    (λ _. h)
