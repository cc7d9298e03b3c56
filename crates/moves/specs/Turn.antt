-- A turn (01, "A cell", "A run" and the order of refusal). `good` says whether the record is sound. A refused call gives the board
-- back as it was. Definitions only. Assumes nothing.
use Rattle.std.specs.Prelude.{ℕ, ◌+◌, ◌*◌, ◌/◌, Bool, not, cond, [], ◌∷◌, eqb, ltb, set}
use Rattle.order.specs.Order.{◌⟶◌, first_of}
use Rattle.board.specs.declared.Board.{Board}
use Rattle.moves.specs.declared.Moved as code
use Rattle.board.specs.Board.{free_place, place_at, count_at, cell_at, down_at}
use Rattle.moves.specs.Answer.{Answer, Passed, Dealt, Refused, turned}
use Rattle.moves.specs.Enter.{at}

-- 9 not sound; 4 token above 255; 8 token not inside
unfoldable pub turn_no : Bool → Board → ℕ → ℕ
turn_no good x t = first_of ((not good ⟶ 9) ∷ (ltb 255 t ⟶ 4) ∷ (not (place_at x t).inside ⟶ 8) ∷ [])

-- the outlet that a toggle shows: 0, the top, where it is up, and 1, the bottom, where it is down
abbrev pub outlet_of : Bool → ℕ
outlet_of down = cond down 1 0

-- what a turn gives: its answer, and the board after it
pub record Moved : Type 0 where
  pub answer : Answer
  pub board : Board

abbrev pub moved : code.Moved → Moved
moved m = record { answer = turned m.turn; board = m.board }

-- The token passes the cell c that its wire feeds, by the place 2c + s, whichever inlet s it used: it leaves by the outlet that
-- the toggle shows, and flips it. The answer names the new level and wire, and layer, cell and outlet.
unfoldable pub passing : ℕ → Board → ℕ → ℕ → Moved
passing w x t feeds =
    let L = (place_at x t).level in
    let c = feeds / 2 in
    let down = down_at w x L c in
    let o = outlet_of down in
    let v = 2 * c + o in
    record {
      answer = Passed (L + 1) v L c o;
      board =
          record {
            entered = x.entered;
            counts = x.counts;
            toggles = set x.toggles (cell_at w L c) (not down);
            places = set x.places t (at (L + 1) v);
          };
    }

-- At exit i with count c the token is dealt the number i + w · c, the count is raised, and the token is free.
abbrev pub number_at : ℕ → ℕ → ℕ → ℕ
number_at w i c = i + w * c

unfoldable pub dealing : ℕ → Board → ℕ → ℕ → Moved
dealing w x t i =
    record {
      answer = Dealt i (number_at w i (count_at x i));
      board =
          record {
            entered = x.entered;
            counts = set x.counts i (count_at x i + 1);
            toggles = x.toggles;
            places = set x.places t free_place;
          };
    }

-- below the depth the token passes its next cell; at the last level it is dealt its number at the exit
unfoldable pub turn_with : Bool → ℕ → ℕ → Board → ℕ → ℕ → ℕ → Moved
turn_with good w d x t feeds exit =
    let n = turn_no good x t in
    cond (eqb n 0)
    (cond (ltb (place_at x t).level d) (passing w x t feeds) (dealing w x t exit))
    (record { answer = Refused n; board = x })
