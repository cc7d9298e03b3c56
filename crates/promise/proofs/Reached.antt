-- A run that is reached from an opening, with the numbers dealt on the way. Its calls are those of its board, through the rows of its
-- build. In order: a run and its board; what a call comes to; calls; no call changes width, construction or depth; a history.
-- Assumes nothing.
use Prim.Native.Nat.{ℕ, ◌+◌, ◌<◌}
use mathlib.Core.Path.{◌≡◌, refl, ap, ◌∙◌}
use mathlib.Core.Bool.{true}
use mathlib.Core.List.{List, [], ◌∷◌, ◌++◌}
use native.Mathlib.Omega.{arith}
use lib.ListN.{length}
use borrow.Author.Tests.{eq-eqb}
use Rattle.network.specs.Widths.{open_no, depth_of}
use Rattle.network.specs.Rows.{place_of}
use Rattle.network.proofs.Widths.{allowed}
use Rattle.board.specs.declared.Board.{Board}
use Rattle.board.specs.Board.{place_at}
use Rattle.board.specs.Sound.{inside_sum}
use Rattle.board.proofs.Sound.{Inside}
use Rattle.moves.specs.Answer.{Values, values_of}
use Rattle.run.specs.declared.Run.{Run}
use Rattle.run.specs.Run.{fresh, open_of, sound, depth_in, feeds_of, enter_of, turn_of}
use Rattle.run.proofs.Keeps.{Shaped, shaped_enter, shaped_turn, enter_keeps, turn_keeps}
use Rattle.promise.specs.History.{Call, enter, turn, Deal, After, call_of, calls_of, calls_by, history}
use Rattle.promise.proofs.Record.{Fits}
use Rattle.promise.proofs.Boards.{Layered, cell, board_call, turned, Turns, Comes, Steps, calls_on_board}
use Rattle.promise.proofs.Boards as boards
use Rattle.promise.proofs.Builds.{straight, builds_fit}

-- ---- a run's board: the wires go by the rows of the build, and those of the last level are the exits
module _ (x : Run) where
  abbrev pub rows_in : ℕ → ℕ → ℕ
  rows_in = place_of x.width x.construction

  abbrev pub call_in : Board → Call → After Board
  call_in = board_call x.width (depth_in x) rows_in straight

  abbrev pub TurnsIn : ℕ → Values → Board → Type 0
  TurnsIn = Turns x.width (depth_in x) rows_in straight x.board

  abbrev pub ComesIn : Call → Board → List ℕ → List Deal → Type 0
  ComesIn = Comes x.width (depth_in x) rows_in straight x.board

abbrev pub board_of : After Run → After Board
board_of y = record { run = y.run.board; entries = y.entries; deals = y.deals }

pub record Reached (x : Run) (dealt : List Deal) : Type 0 where
  pub allowed : open_no x.width x.construction ≡ 0
  pub entries : List ℕ
  pub keeping : boards.Reached x.width (depth_in x) (rows_in x) straight x.board entries dealt

module _ {x : Run} {dealt : List Deal} (r : Reached x dealt) where
  pub reached_layered : Layered x.width (depth_in x) (rows_in x) straight
  unfolding depth_in
  reached_layered = builds_fit x.width x.construction r.allowed

  pub reached_fits : Fits x.width (depth_in x) (cell x.width (depth_in x) (rows_in x) straight) straight
  reached_fits = boards.fits _ _ _ _ reached_layered

  -- as many numbers are dealt as have entered and are not inside
  pub reached_size : length dealt + inside_sum x.board ≡ x.board.entered
  reached_size = omega (arith, r.keeping.kept.size, r.keeping.kept.balanced.total)

  -- the place of a token inside
  pub reached_inside : (t : ℕ) → t < 256 → (place_at x.board t).inside ≡ true → Inside x.width (depth_in x) (place_at x.board t)
  reached_inside = boards.reached_inside _ _ _ _ reached_layered r.keeping

  pub reached_sound : sound x ≡ true
  unfolding sound
  reached_sound = rw ((allowed _ _ r.allowed).width, (allowed _ _ r.allowed).construction, r.keeping.is_sound)

-- ---- a sound run of one width and construction, and a call on it
record Good (w c : ℕ) (x : Run) : Type 0 where
  width : x.width ≡ w
  construction : x.construction ≡ c
  shaped : Shaped x
  is_sound : sound x ≡ true

good : {x : Run} {dealt : List Deal} → Reached x dealt → Good x.width x.construction x
good r = record { width = refl; construction = refl; shaped = r.keeping.shaped; is_sound = reached_sound r }

call_steps : (w c : ℕ) (x : Run) (call : Call) → Good w c x
    → Steps w (depth_of w c) (place_of w c) straight call_of (λ y. y.board) (Good w c) x call
unfolding call_of enter_of turn_of feeds_of depth_in board_call turned
call_steps w c x (enter t v) g = record {
  good = record {
    width = g.width;
    construction = g.construction;
    shaped = shaped_enter x g.shaped t v;
    is_sound = enter_keeps x t v g.shaped g.is_sound;
  };
  same = rw (g.is_sound, g.width);
}
call_steps w c x (turn t) g = record {
  good = record {
    width = g.width;
    construction = g.construction;
    shaped = shaped_turn x g.shaped t;
    is_sound = turn_keeps x t g.shaped g.is_sound;
  };
  same = rw (g.is_sound, g.width, g.construction);
}

module _ {x : Run} {dealt : List Deal} (r : Reached x dealt) where
  pub call_on_board : (call : Call) → board_of (call_of x call) ≡ call_in x x.board call
  unfolding depth_in
  call_on_board call = (call_steps x.width x.construction x call (good r)).same

  pub calls_on : (calls : List Call) → board_of (calls_of x calls) ≡ calls_by (call_in x) x.board calls
  unfolding calls_of depth_in
  calls_on calls =
      (calls_on_board x.width (depth_in x) (rows_in x) straight call_of (λ y. y.board) (Good x.width x.construction)
      (call_steps x.width x.construction) calls x (good r)).1

  -- what a turn answers and what a call comes to
  pub turns : (t : ℕ) → TurnsIn x t (values_of (turn_of x t).answer) (turn_of x t).run.board
  unfolding turn_of feeds_of turned
  turns t = rw (reached_sound r) (boards.turns x.width (depth_in x) (rows_in x) straight x.board t)

  pub comes : (call : Call) → ComesIn x call (call_of x call).run.board (call_of x call).entries (call_of x call).deals
  comes call = rw (← call_on_board call) at (boards.comes x.width (depth_in x) (rows_in x) straight x.board call)

-- ---- no call changes the width, the construction or the depth
pub width_calls : (calls : List Call) (x : Run) → (calls_of x calls).run.width ≡ x.width
unfolding calls_of calls_by call_of enter_of turn_of
width_calls [] x = refl
width_calls (enter t v ∷ rest) x = width_calls rest (enter_of x t v).run
width_calls (turn t ∷ rest) x = width_calls rest (turn_of x t).run

pub construction_calls : (calls : List Call) (x : Run) → (calls_of x calls).run.construction ≡ x.construction
unfolding calls_of calls_by call_of enter_of turn_of
construction_calls [] x = refl
construction_calls (enter t v ∷ rest) x = construction_calls rest (enter_of x t v).run
construction_calls (turn t ∷ rest) x = construction_calls rest (turn_of x t).run

pub depth_call : (x : Run) (call : Call) → depth_in (call_of x call).run ≡ depth_in x
unfolding call_of enter_of turn_of depth_in
depth_call x (enter t v) = refl
depth_call x (turn t) = refl

-- ---- calls
module _ {x : Run} {dealt : List Deal} (r : Reached x dealt) where
  pub reached_call : (call : Call) → Reached (call_of x call).run (dealt ++ (call_of x call).deals)
  unfolding call_of enter_of turn_of depth_in
  reached_call (enter t v) = record {
    allowed = r.allowed;
    entries = _;
    keeping = rw (← call_on_board r (enter t v)) at (boards.reached_call _ _ _ _ (reached_layered r) r.keeping (enter t v));
  }
  reached_call (turn t) = record {
    allowed = r.allowed;
    entries = _;
    keeping = rw (← call_on_board r (turn t)) at (boards.reached_call _ _ _ _ (reached_layered r) r.keeping (turn t));
  }

  pub reached_calls : (calls : List Call) → Reached (calls_of x calls).run (dealt ++ (calls_of x calls).deals)
  unfolding depth_in
  reached_calls calls = record {
    allowed = rw (width_calls calls x, construction_calls calls x) r.allowed;
    entries = r.entries ++ (calls_of x calls).entries;
    keeping =
        rw (width_calls calls x, construction_calls calls x)
        (rw (← calls_on r calls) at (boards.reached_calls _ _ _ _ (reached_layered r) calls r.keeping));
  }

-- ---- a history
module _ (w c : ℕ) (ok : open_no w c ≡ 0) where
  reached_fresh : Reached (fresh w c) []
  unfolding fresh depth_in
  reached_fresh = record {
    allowed = ok;
    entries = [];
    keeping = boards.reached_fresh w (depth_of w c) (place_of w c) straight (builds_fit w c ok);
  }

  opened : (open_of w c).run ≡ fresh w c
  unfolding open_of
  opened = rw (eq-eqb (open_no w c) 0 ok)

  pub history_reached : (calls : List Call) → Reached (history w c calls).run (history w c calls).deals
  unfolding history
  history_reached calls = rw opened (reached_calls reached_fresh calls)

  pub history_width : (calls : List Call) → (history w c calls).run.width ≡ w
  unfolding history fresh
  history_width calls = width_calls calls (open_of w c).run ∙ ap (λ x. x.width) opened

  pub history_construction : (calls : List Call) → (history w c calls).run.construction ≡ c
  unfolding history fresh
  history_construction calls = construction_calls calls (open_of w c).run ∙ ap (λ x. x.construction) opened

  pub history_depth : (calls : List Call) → depth_in (history w c calls).run ≡ depth_of w c
  unfolding depth_in
  history_depth calls = rw (history_width calls, history_construction calls)
