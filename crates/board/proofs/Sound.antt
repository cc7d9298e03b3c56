-- What a sound board has. In order: soundness as a record of its parts, and back; the place of a token inside; an exit's count;
-- the board as it opens. Assumes nothing.
use mathlib.Core.Path.{◌≡◌, refl, sym, ◌∙◌}
use mathlib.Core.Bool.{true, false, not, ◌&&◌, or-false}
use Prim.Native.Nat.{ℕ, ◌+◌, ◌*◌, ◌/◌, ◌<◌, ◌≤◌}
use native.Mathlib.Omega.{arith}
use lib.Dec.{leb, ltb}
use lib.ListN.{length, replicate, length-replicate}
use borrow.Author.Tests.{le-leb, eq-eqb, leb-true, ltb-true, eqb-true}
use Rattle.board.specs.declared.Place.{Place}
use Rattle.board.specs.declared.Board.{Board}
use Rattle.board.specs.Board.{free_place, fresh_board, place_at, count_at}
use Rattle.board.specs.Sound.{few_entered, place_ok, places_ok, is_zero, counts_beyond, toggles_beyond, itself, dealt_sum, inside_one, inside_sum, adds_up, sound_board}
use Rattle.board.proofs.Lists.{and_left, and_right, all_at, all_drop, all_replicate, sum_replicate, elem_le}

-- the arrays are as long as their types say
pub record Shaped (x : Board) : Type 0 where
  pub counts : length x.counts ≡ 64
  pub toggles : length x.toggles ≡ 1152
  pub places : length x.places ≡ 256

pub record Parts (w d : ℕ) (x : Board) : Type 0 where
  pub few : x.entered ≤ 1000000
  pub places : places_ok w d x ≡ true
  pub counts : counts_beyond w x ≡ true
  pub toggles : toggles_beyond w d x ≡ true
  pub adds : dealt_sum x + inside_sum x ≡ x.entered

pub parts : (w d : ℕ) (x : Board) → sound_board w d x ≡ true → Parts w d x
unfolding sound_board few_entered adds_up
parts w d x h =
    let a = few_entered x in
    let b = places_ok w d x in
    let c = counts_beyond w x in
    let e = toggles_beyond w d x in
    let four = and_left (a && b && c && e) (adds_up x) h in
    let three = and_left (a && b && c) e four in
    let two = and_left (a && b) c three in
    record {
      few = leb-true x.entered 1000000 (and_left a b two);
      places = and_right a b two;
      counts = and_right (a && b) c three;
      toggles = and_right (a && b && c) e four;
      adds = eqb-true (dealt_sum x + inside_sum x) x.entered (and_right (a && b && c && e) (adds_up x) h);
    }

pub whole : (w d : ℕ) (x : Board) → Parts w d x → sound_board w d x ≡ true
unfolding sound_board few_entered adds_up
whole w d x h =
    rw (le-leb x.entered 1000000 h.few, h.places, h.counts, h.toggles, eq-eqb (dealt_sum x + inside_sum x) x.entered h.adds)

-- the place of a token inside
pub record Inside (w d : ℕ) (p : Place) : Type 0 where
  pub level : p.level ≤ d
  pub wire : p.wire < w

pub inside_place : (w d : ℕ) (p : Place) → p.inside ≡ true → place_ok w d p ≡ true → Inside w d p
inside_place w d p i h =
    let a = leb p.level d in
    let b = ltb p.wire w in
    let e : a && b ≡ true = sym (or-false (a && b)) ∙ (rw i at h) in
    record { level = leb-true p.level d (and_left a b e); wire = ltb-true p.wire w (and_right a b e) }

pub inside_at : (w d : ℕ) (x : Board) (t : ℕ) → length x.places ≡ 256 → sound_board w d x ≡ true → t < 256 → (place_at x t).inside ≡ true → Inside w d (place_at x t)
unfolding place_at places_ok
inside_at w d x t long h l i =
    inside_place w d (place_at x t) i (all_at free_place (place_ok w d) x.places t (omega arith) (parts w d x h).places)

-- an exit has dealt no more numbers than tokens entered
pub count_le : (w d : ℕ) (x : Board) (i : ℕ) → sound_board w d x ≡ true → count_at x i ≤ x.entered
unfolding count_at dealt_sum
count_le w d x i h = omega (arith, elem_le x.counts i, (parts w d x h).adds)

-- ---- the board as it opens
pub shaped_fresh : Shaped fresh_board
unfolding fresh_board
shaped_fresh =
    record { counts = length-replicate {A = ℕ} 64 0; toggles = length-replicate 1152 false; places = length-replicate 256 free_place }

pub fresh_sound : (w d : ℕ) → sound_board w d fresh_board ≡ true
unfolding fresh_board places_ok counts_beyond toggles_beyond dealt_sum inside_sum
fresh_sound w d =
    whole w d fresh_board
    (record {
      few = omega arith;
      places = all_replicate (place_ok w d) free_place 256 refl;
      counts = all_drop is_zero (replicate 64 0) w (all_replicate is_zero 0 64 refl);
      toggles = all_drop not (replicate 1152 false) (d * (w / 2)) (all_replicate not false 1152 refl);
      adds = omega (arith, sum_replicate itself 0 64 refl, sum_replicate inside_one free_place 256 refl);
    })
