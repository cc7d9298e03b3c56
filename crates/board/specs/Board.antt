-- The moving part of a cabinet (01, "A run"): what is read off it, and how it opens. Definitions only. Assumes nothing.
use Rattle.std.specs.Prelude.{ℕ, ◌+◌, ◌*◌, ◌/◌, Bool, false, get_or, replicate}
use Rattle.board.specs.declared.Place.{Place}
use Rattle.board.specs.declared.Board.{Board}

-- entries in one run
abbrev pub max_entered : ℕ
max_entered = 1000000

-- the place of a free token
abbrev pub free_place : Place
free_place = record { inside = false; level = 0; wire = 0 }

-- all toggles up, all exit counts zero, no token inside, entered 0
unfoldable pub fresh_board : Board
fresh_board = record { entered = 0; counts = replicate 64 0; toggles = replicate 1152 false; places = replicate 256 free_place }

-- the place of token t; a number that is no token reads as a free one
unfoldable pub place_at : Board → ℕ → Place
place_at x t = get_or x.places t free_place

-- how many numbers exit i has dealt
unfoldable pub count_at : Board → ℕ → ℕ
count_at x i = get_or x.counts i 0

-- where the toggle of cell c in layer L stands, at width w, and whether it is down
abbrev pub cell_at : ℕ → ℕ → ℕ → ℕ
cell_at w L c = L * (w / 2) + c

unfoldable pub down_at : ℕ → Board → ℕ → ℕ → Bool
down_at w x L c = get_or x.toggles (cell_at w L c) false
