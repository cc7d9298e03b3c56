-- When the moving part is sound for a network of width w and depth d (01, "A run"). Definitions only. Assumes nothing.
use Rattle.std.specs.Prelude.{ℕ, ◌+◌, ◌*◌, ◌/◌, Bool, true, not, cond, ◌&&◌, ◌||◌, List, [], ◌∷◌, eqb, leb, ltb, drop}
use Rattle.board.specs.declared.Place.{Place}
use Rattle.board.specs.declared.Board.{Board}
use Rattle.board.specs.Board.{max_entered}

-- p holds of each element
unfoldable pub all : {A : Type 0} → (A → Bool) → List A → Bool
all p [] = true
all p (a ∷ l) = p a && all p l

-- the sum of what f gives for each element
unfoldable pub sum_of : {A : Type 0} → (A → ℕ) → List A → ℕ
sum_of f [] = 0
sum_of f (a ∷ l) = f a + sum_of f l

unfoldable pub few_entered : Board → Bool
few_entered x = leb x.entered max_entered

-- a token inside is at a level at most the depth and a wire below the width; a free token's place is level 0, wire 0
abbrev pub place_ok : ℕ → ℕ → Place → Bool
place_ok w d p =
    (p.inside && leb p.level d && ltb p.wire w) || (not p.inside && eqb p.level 0 && eqb p.wire 0)

unfoldable pub places_ok : ℕ → ℕ → Board → Bool
places_ok w d x = all (place_ok w d) x.places

-- counts beyond the width, and toggles beyond the d · w/2 cells, are as at opening
abbrev pub is_zero : ℕ → Bool
is_zero n = eqb n 0

unfoldable pub counts_beyond : ℕ → Board → Bool
counts_beyond w x = all is_zero (drop w x.counts)

unfoldable pub toggles_beyond : ℕ → ℕ → Board → Bool
toggles_beyond w d x = all not (drop (d * (w / 2)) x.toggles)

-- the numbers dealt at all exits, and the tokens inside
abbrev pub itself : ℕ → ℕ
itself n = n

unfoldable pub dealt_sum : Board → ℕ
dealt_sum x = sum_of itself x.counts

abbrev pub inside_one : Place → ℕ
inside_one p = cond p.inside 1 0

unfoldable pub inside_sum : Board → ℕ
inside_sum x = sum_of inside_one x.places

-- exit counts plus tokens inside add up to entered
unfoldable pub adds_up : Board → Bool
adds_up x = eqb (dealt_sum x + inside_sum x) x.entered

unfoldable pub sound_board : ℕ → ℕ → Board → Bool
sound_board w d x = few_entered x && places_ok w d x && counts_beyond w x && toggles_beyond w d x && adds_up x
