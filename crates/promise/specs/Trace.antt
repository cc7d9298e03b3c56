-- What a turn tells of the cell that it passed (02, P2), and what the passes of one request are together. The statements only; the
-- proofs are `turns_name` and `traces` of proofs/Trace. Assumes nothing.
use Rattle.std.specs.Prelude.{◌≡◌, true, false, not, cond, List, [], ◌∷◌, ◌++◌, ℕ, suc, ◌+◌, ◌*◌, ◌/◌, ◌<◌, ◌≤◌, eqb}
use Rattle.network.specs.Widths.{open_no, depth_of}
use Rattle.network.specs.Rows.{place_of}
use Rattle.board.specs.declared.Board.{Board}
use Rattle.board.specs.Board.{down_at}
use Rattle.moves.specs.Answer.{Values, values_of}
use Rattle.moves.specs.Turn.{outlet_of}
use Rattle.run.specs.declared.Run.{Run}
use Rattle.run.specs.Run.{enter_of, turn_of}
use Rattle.promise.specs.History.{Call, enter, turn, history, turns_of}

-- ---- one turn
-- A turn that passed a cell, in a network of width w and depth d: its answer a, the board x before it and y after it.
pub record Names (w d : ℕ) (x y : Board) (a : Values) : Type 0 where
  -- the token is now on the wire of that outlet, a level further
  pub level : a.level ≡ a.layer + 1
  pub wire : a.wire ≡ 2 * a.cell + a.outlet
  -- the cell is one of the network's
  pub layer : a.layer < d
  pub cell : a.cell < w / 2
  -- the outlet is the one that the cell's toggle showed
  pub outlet : a.outlet ≡ outlet_of (down_at w x a.layer a.cell)
  -- the cell's toggle is flipped, and no other
  pub flipped : down_at w y a.layer a.cell ≡ not (down_at w x a.layer a.cell)
  pub others : (L c : ℕ) → L < d → c < w / 2 → ((L ≡ a.layer) × (c ≡ a.cell) → ⊥) → down_at w y L c ≡ down_at w x L c

-- A turn that passed none, dealt or refused: no cell is named, and no toggle differs.
pub record NamesNone (x y : Board) (a : Values) : Type 0 where
  pub none : (a.layer ≡ 0) × (a.cell ≡ 0) × (a.outlet ≡ 0)
  pub toggles : y.toggles ≡ x.toggles

-- a turn of token t in run x
pub record TurnNames (w d : ℕ) (x : Run) (t : ℕ) : Type 0 where
  pub passed : (values_of (turn_of x t).answer).passed ≡ true
      → Names w d x.board (turn_of x t).run.board (values_of (turn_of x t).answer)
  pub else : (values_of (turn_of x t).answer).passed ≡ false
      → NamesNone x.board (turn_of x t).run.board (values_of (turn_of x t).answer)

-- both constructions, every allowed width, every turn after every list of calls
pub record TurnsName : Type 0 where
  pub holds : (w c : ℕ) (calls : List Call) (t : ℕ) → open_no w c ≡ 0 → TurnNames w (depth_of w c) (history w c calls).run t

-- ---- one request
-- the passes of token t among calls on run x, in order
abbrev pub pass_of : Values → List Values
pass_of a = cond a.passed (a ∷ []) []

unfoldable pub passes_of : ℕ → Run → List Call → List Values
passes_of t x [] = []
passes_of t x (enter u v ∷ rest) = passes_of t (enter_of x u v).run rest
passes_of t x (turn u ∷ rest) = cond (eqb u t) (pass_of (values_of (turn_of x u).answer)) [] ++ passes_of t (turn_of x u).run rest

-- n passes from wire v of level L: the first names layer L and the cell that the wire feeds, the next layer L + 1 and the cell that
-- is fed by the wire on which the first left, and so on
pub data Trace (w c : ℕ) : ℕ → ℕ → ℕ → List Values → Type 0 where
  done : {L v : ℕ} → Trace w c L v 0 []
  next : {L v n : ℕ} {a : Values} {rest : List Values} → a.layer ≡ L → a.cell ≡ place_of w c L v / 2
      → Trace w c (L + 1) a.wire n rest → Trace w c L v (suc n) (a ∷ rest)

-- Token t enters run x on wire v, and further calls follow, of whichever tokens and in whichever order. Each of its own turns is a
-- pass until it has passed all layers, 0 to depth - 1, each once and in this order; with the turn on which it is dealt its number
-- there is no further pass.
pub record Traced (w c : ℕ) (x : Run) (t v : ℕ) (calls : List Call) : Type 0 where
  pub on_the_way : turns_of t calls ≤ depth_of w c → Trace w c 0 v (turns_of t calls) (passes_of t x (enter t v ∷ calls))
  pub whole : turns_of t calls ≡ depth_of w c + 1 → Trace w c 0 v (depth_of w c) (passes_of t x (enter t v ∷ calls))

-- whatever history came before, for each entry that is not refused
pub record Traces : Type 0 where
  pub holds : (w c : ℕ) (before : List Call) (t v : ℕ) (calls : List Call) → open_no w c ≡ 0
      → (enter_of (history w c before).run t v).refusal ≡ 0
      → Traced w c (history w c before).run t v calls
