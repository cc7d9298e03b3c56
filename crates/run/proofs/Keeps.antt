-- What every call keeps. In order: a sound run's parts; the run as it opens; what holds where a call is not refused; the place that
-- a token's wire feeds; shape, soundness and width are kept; a sound run is never refused by 9. Assumes nothing.
use mathlib.Core.Path.{◌≡◌, refl, ◌∙◌, sym}
use mathlib.Core.Bool.{true, false, ◌&&◌}
use Prim.Native.Nat.{ℕ, ◌≤◌}
use native.Mathlib.Omega.{arith}
use Rattle.network.specs.Widths.{width_ok, construction_ok, open_no}
use Rattle.network.proofs.Widths.{allowed, layered, width_small}
use Rattle.network.proofs.Rows.{place_of_below}
use Rattle.board.specs.declared.Board.{Board}
use Rattle.moves.specs.Answer.{values_of}
use Rattle.board.specs.Board.{place_at}
use Rattle.board.specs.Sound.{sound_board}
use Rattle.moves.specs.Enter.{enter_no, enter_with}
use Rattle.moves.specs.Turn.{turn_no}
use Rattle.board.proofs.Lists.{and_left, and_right}
use Rattle.board.proofs.Sound as board
use Rattle.moves.proofs.Refusals.{CanEnter, CanTurn, turn_number, enter_no_le, turn_no_le}
use Rattle.moves.proofs.Refusals as refusals
use Rattle.moves.proofs.Keeps as keeps
use Rattle.run.specs.declared.Run.{Run}
use Rattle.run.specs.Run.{fresh, depth_in, sound, with_board, enter_of, feeds_of, turn_of}

-- the arrays are as long as their types say
abbrev pub Shaped : Run → Type 0
Shaped x = board.Shaped x.board

-- ---- soundness
pub record Parts (x : Run) : Type 0 where
  pub width : width_ok x.width ≡ true
  pub construction : construction_ok x.construction ≡ true
  pub board : sound_board x.width (depth_in x) x.board ≡ true

pub parts : (x : Run) → sound x ≡ true → Parts x
unfolding sound
parts x h =
    let a = width_ok x.width in
    let b = construction_ok x.construction in
    let c = sound_board x.width (depth_in x) x.board in
    let both = and_left (a && b) c h in
    record { width = and_left a b both; construction = and_right a b both; board = and_right (a && b) c h }

-- a sound run with another sound board
pub sound_with : (x : Run) (b : Board) → Parts x → sound_board x.width (depth_in x) b ≡ true → sound (with_board x b) ≡ true
unfolding sound depth_in
sound_with x b p h = rw (p.width, p.construction, h)

-- ---- the run as it opens
pub shaped_fresh : (w c : ℕ) → Shaped (fresh w c)
unfolding fresh
shaped_fresh w c = board.shaped_fresh

pub fresh_sound : (w c : ℕ) → open_no w c ≡ 0 → sound (fresh w c) ≡ true
unfolding sound fresh
fresh_sound w c h = rw ((allowed w c h).width, (allowed w c h).construction, board.fresh_sound w (depth_in (fresh w c)))

-- a refused opening gives a record that is not sound
pub refused_unsound : sound (fresh 0 0) ≡ false
unfolding sound fresh width_ok
refused_unsound = refl

-- ---- what holds where a call is not refused
pub enter_number : (x : Run) (t v : ℕ) → (enter_of x t v).refusal ≡ enter_no (sound x) x.width x.board t v
unfolding enter_of enter_with
enter_number x t v = refl

pub turn_answer : (x : Run) (t : ℕ) → (values_of (turn_of x t).answer).refusal ≡ turn_no (sound x) x.board t
unfolding turn_of
turn_answer x t = turn_number (sound x) x.width (depth_in x) x.board t (feeds_of x t) (place_at x.board t).wire

pub can_enter : (x : Run) (t v : ℕ) → (enter_of x t v).refusal ≡ 0 → CanEnter (sound x) x.width x.board t v
can_enter x t v h = refusals.can_enter (sound x) x.width x.board t v (sym (enter_number x t v) ∙ h)

pub can_turn : (x : Run) (t : ℕ) → (values_of (turn_of x t).answer).refusal ≡ 0 → CanTurn (sound x) x.board t
can_turn x t h = refusals.can_turn (sound x) x.board t (sym (turn_answer x t) ∙ h)

-- ---- shapes
module _ (x : Run) (s : Shaped x) where
  pub shaped_enter : (t v : ℕ) → Shaped (enter_of x t v).run
  unfolding enter_of
  shaped_enter t v = keeps.shaped_enter x.board s (sound x) x.width t v

  pub shaped_turn : (t : ℕ) → Shaped (turn_of x t).run
  unfolding turn_of
  shaped_turn t = keeps.shaped_turn x.board s (sound x) x.width (depth_in x) t (feeds_of x t) (place_at x.board t).wire

-- ---- the rows lead a token inside to a place of the network
pub leads : (x : Run) (t : ℕ) → Parts x → keeps.Leads x.width (depth_in x) (place_at x.board t) (feeds_of x t) (place_at x.board t).wire
unfolding depth_in feeds_of
leads x t p =
    let w = x.width in
    let c = x.construction in
    let L = (place_at x.board t).level in
    record {
      most = width_small w p.width;
      even = λ l. (layered w c L l).even;
      place = λ l v. place_of_below w c L l (place_at x.board t).wire v;
      out = λ v. v;
    }

-- ---- soundness, width and construction
pub enter_keeps : (x : Run) (t v : ℕ) → Shaped x → sound x ≡ true → sound (enter_of x t v).run ≡ true
unfolding enter_of
enter_keeps x t v s h =
    let p = parts x h in
    sound_with x _ p (keeps.enter_sound (sound x) x.width (depth_in x) x.board t v s p.board)

pub turn_keeps : (x : Run) (t : ℕ) → Shaped x → sound x ≡ true → sound (turn_of x t).run ≡ true
unfolding turn_of
turn_keeps x t s h =
    let p = parts x h in
    sound_with x _ p (keeps.turn_sound (sound x) x.width (depth_in x) x.board t (feeds_of x t) (place_at x.board t).wire s (leads x t p) p.board)

pub enter_width : (x : Run) (t v : ℕ) → (enter_of x t v).run.width ≡ x.width
unfolding enter_of
enter_width x t v = refl

pub turn_width : (x : Run) (t : ℕ) → (turn_of x t).run.width ≡ x.width
unfolding turn_of
turn_width x t = refl

-- ---- a sound run is never refused by 9
pub enter_never_9 : (x : Run) (t v : ℕ) → sound x ≡ true → (enter_of x t v).refusal ≡ 9 → ⊥
enter_never_9 x t v h nine =
    let few : enter_no (sound x) x.width x.board t v ≤ 7 = rw h (enter_no_le x.width x.board t v) in
    omega (arith, enter_number x t v)

pub turn_never_9 : (x : Run) (t : ℕ) → sound x ≡ true → (values_of (turn_of x t).answer).refusal ≡ 9 → ⊥
turn_never_9 x t h nine =
    let few : turn_no (sound x) x.board t ≤ 8 = rw h (turn_no_le x.board t) in
    omega (arith, turn_answer x t)
