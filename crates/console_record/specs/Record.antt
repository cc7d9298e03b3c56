-- A record as the console's text, `W C ENTERED COUNTS TOGGLES PLACES`, with the depth in place of the construction in that of a run
-- over a feed sheet: of its lists, only what differs from an opening. Definitions only. Assumes nothing.
use Rattle.std.specs.Prelude.{ℕ, Bool, not, ◌||◌, List, [], ◌∷◌, ◌++◌, eqb}
use Rattle.text.specs.Text.{letters}
use Rattle.text.specs.Numbers.{decimal, row}
use Rattle.text.specs.Lists.{listed, indexed}
use Rattle.board.specs.declared.Place.{Place}
use Rattle.board.specs.declared.Board.{Board}
use Rattle.board.specs.Sound.{inside_one}

-- `i=n`: exit i has dealt n numbers
abbrev pub has_dealt : ℕ → Bool
has_dealt dealt = not (eqb dealt 0)

abbrev pub count_entry : ℕ → ℕ → List ℕ
count_entry exit dealt = (decimal exit ++ letters "=") ++ decimal dealt

-- `i`: toggle i is down
abbrev pub is_down : Bool → Bool
is_down down = down

abbrev pub toggle_entry : ℕ → Bool → List ℕ
toggle_entry cell down = decimal cell

-- `t=INSIDE/LEVEL/WIRE`: where token t is
abbrev pub is_placed : Place → Bool
is_placed p = (p.inside || not (eqb p.level 0)) || not (eqb p.wire 0)

abbrev pub place_entry : ℕ → Place → List ℕ
place_entry token p =
    (decimal token ++ letters "=")
    ++ ((decimal (inside_one p) ++ letters "/") ++ ((decimal p.level ++ letters "/") ++ decimal p.wire))

-- ---- the lists
abbrev pub count_list : Board → List ℕ
count_list b = listed (indexed has_dealt count_entry 0 b.counts)

abbrev pub toggle_list : Board → List ℕ
toggle_list b = listed (indexed is_down toggle_entry 0 b.toggles)

abbrev pub place_list : Board → List ℕ
place_list b = listed (indexed is_placed place_entry 0 b.places)

unfoldable pub board_text : Board → List ℕ
board_text b = count_list b ++ (letters " " ++ (toggle_list b ++ (letters " " ++ place_list b)))

-- a record of width w and construction or depth k
unfoldable pub record_text : ℕ → ℕ → Board → List ℕ
record_text w k b = decimal w ++ (row (k ∷ b.entered ∷ []) ++ (letters " " ++ board_text b))

unfoldable pub record_line : ℕ → ℕ → Board → List ℕ
record_line w k b = record_text w k b ++ letters "\n"
