-- Calls on the board of any layered network that fits one: what they come to, and what they keep. A record over such a network makes
-- its calls by these. In order: calls; a board that is reached; one call; calls; at rest; a record's calls are the board's.
-- Assumes nothing.
use Prim.Native.Nat.{ℕ, ◌+◌, ◌*◌, ◌/◌, ◌≤◌, ◌<◌}
use mathlib.Core.Path.{◌≡◌, refl, subst, fun_ext}
use mathlib.Core.Bool.{Bool, true, false, cond}
use mathlib.Core.List.{List, [], ◌∷◌, ◌++◌, append_assoc, append-nil}
use native.Mathlib.Omega.{arith}
use lib.Dec.{eqb, ltb}
use borrow.Author.Tests.{eqb-true, eqb-false, ltb-true, ltb-false}
use Rattle.rest.specs.Flow.{csum, flow}
use Rattle.board.specs.declared.Board.{Board}
use Rattle.board.specs.Board.{fresh_board, place_at, count_at}
use Rattle.board.specs.Sound.{sum_of, inside_sum, sound_board}
use Rattle.board.proofs.Sound.{Shaped, Inside, inside_at, shaped_fresh, fresh_sound}
use Rattle.moves.specs.Answer.{Refused, Values, values_of}
use Rattle.moves.specs.Enter.{enter_no, entering, enter_with}
use Rattle.moves.specs.Turn.{Moved, turn_no, passing, dealing, turn_with}
use Rattle.moves.proofs.Refusals.{CanEnter, CanTurn, can_enter, can_turn}
use Rattle.moves.proofs.Keeps.{Leads, shaped_enter, shaped_turn, enter_sound, turn_sound}
use Rattle.promise.specs.History.{Call, enter, turn, Deal, After, entry_of, deal_of, calls_by, entered_on}
use Rattle.promise.proofs.Core.{one, one_same, count_rest}
use Rattle.promise.proofs.Book.{entered_on_append, entered_on_one}
use Rattle.promise.proofs.Kept.{Kept}
use Rattle.promise.proofs.Record.{Fits, seen_of, deal_at, none_on, kept_fresh, kept_entering, kept_passing, kept_dealing}

-- wire v of level L feeds the place row L v, and wire v of the last level goes to exit v
pub record Layered (w d : ℕ) (row : ℕ → ℕ → ℕ) (exit : ℕ → ℕ) : Type 0 where
  pub some : 0 < w
  pub most : w ≤ 64
  pub room : d * (w / 2) ≤ 1152
  pub even : 0 < d → w ≡ 2 * (w / 2)
  pub places : (L v : ℕ) → L < d → v < w → row L v < w
  pub exits : (v : ℕ) → v < w → exit v < w

module _ (w d : ℕ) (row : ℕ → ℕ → ℕ) (exit : ℕ → ℕ) where
  abbrev pub cell : ℕ → ℕ → ℕ
  cell L v = row L v / 2

  -- where the wire of token t goes
  abbrev pub feeds : Board → ℕ → ℕ
  feeds x t = row (place_at x t).level (place_at x t).wire

  abbrev pub exit_at : Board → ℕ → ℕ
  exit_at x t = exit (place_at x t).wire

  -- ---- calls on a sound board
  unfoldable pub turned : Board → ℕ → Moved
  turned x t = turn_with true w d x t (feeds x t) (exit_at x t)

  unfoldable pub board_call : Board → Call → After Board
  board_call x (enter t v) =
      let e = enter_with true w x t v in
      record { run = e.board; entries = entry_of e.refusal v; deals = [] }
  board_call x (turn t) =
      let m = turned x t in
      record { run = m.board; entries = []; deals = deal_of t (values_of m.answer) }

  -- a turn on board x: what it answers, and the board after it
  pub data Turns (x : Board) (u : ℕ) : Values → Board → Type 0 where
    refused : (turn_no true x u ≡ 0 → ⊥) → Turns x u (values_of (Refused (turn_no true x u))) x
    passes : CanTurn true x u → (place_at x u).level < d
        → Turns x u (values_of (passing w x u (feeds x u)).answer) (passing w x u (feeds x u)).board
    deals : CanTurn true x u → d ≤ (place_at x u).level
        → Turns x u (values_of (dealing w x u (exit_at x u)).answer) (dealing w x u (exit_at x u)).board

  -- a call on board x, the board after it, the wire entered on, and what it deals
  pub data Comes (x : Board) : Call → Board → List ℕ → List Deal → Type 0 where
    enter_refused : {u v : ℕ} → (enter_no true w x u v ≡ 0 → ⊥) → Comes x (enter u v) x [] []
    enter_taken : {u v : ℕ} → CanEnter true w x u v → Comes x (enter u v) (entering x u v) (v ∷ []) []
    turn_refused : {u : ℕ} → (turn_no true x u ≡ 0 → ⊥) → Comes x (turn u) x [] []
    turn_passes : {u : ℕ} → CanTurn true x u → (place_at x u).level < d → Comes x (turn u) (passing w x u (feeds x u)).board [] []
    turn_deals : {u : ℕ} → CanTurn true x u → d ≤ (place_at x u).level
        → Comes x (turn u) (dealing w x u (exit_at x u)).board [] (deal_at w x u (exit_at x u) ∷ [])

  module _ (x : Board) where
    moved : ℕ → Bool → Bool → Moved
    moved t a b = cond a (cond b (passing w x t (feeds x t)) (dealing w x t (exit_at x t))) (record { answer = Refused (turn_no true x t); board = x })

    turns_moved : (t : ℕ) (a b : Bool) → eqb (turn_no true x t) 0 ≡ a → ltb (place_at x t).level d ≡ b
        → Turns x t (values_of (moved t a b).answer) (moved t a b).board
    unfolding moved
    turns_moved t true true e f = passes (can_turn true x t (eqb-true _ 0 e)) (ltb-true _ _ f)
    turns_moved t true false e f = deals (can_turn true x t (eqb-true _ 0 e)) (ltb-false _ _ f)
    turns_moved t false b e f = refused (eqb-false _ 0 e)

    pub turns : (t : ℕ) → Turns x t (values_of (turned x t).answer) (turned x t).board
    unfolding turned turn_with moved
    turns t = turns_moved t (eqb (turn_no true x t) 0) (ltb (place_at x t).level d) refl refl

    comes_turn : {t : ℕ} {a : Values} {b : Board} → Turns x t a b → Comes x (turn t) b [] (deal_of t a)
    unfolding values_of passing dealing
    comes_turn (refused not) = turn_refused not
    comes_turn (passes can l) = turn_passes can l
    comes_turn (deals can l) = turn_deals can l

    comes_enter : (t v : ℕ) (a : Bool) → eqb (enter_no true w x t v) 0 ≡ a
        → Comes x (enter t v) (cond a (entering x t v) x) (cond a (v ∷ []) []) []
    comes_enter t v true e = enter_taken (can_enter true w x t v (eqb-true _ 0 e))
    comes_enter t v false e = enter_refused (eqb-false _ 0 e)

    pub comes : (call : Call) → Comes x call (board_call x call).run (board_call x call).entries (board_call x call).deals
    unfolding board_call enter_with
    comes (enter t v) = comes_enter t v (eqb (enter_no true w x t v) 0) refl
    comes (turn t) = comes_turn (turns t)

  -- ---- a board that is reached from an opening, with the wires entered on and the numbers dealt
  pub record Reached (x : Board) (entries : List ℕ) (dealt : List Deal) : Type 0 where
    pub shaped : Shaped x
    pub is_sound : sound_board w d x ≡ true
    pub kept : Kept w d cell exit (seen_of w x) (λ v. entered_on v entries) dealt

  module _ (net : Layered w d row exit) where
    pub fits : Fits w d cell exit
    fits = record {
      some = net.some;
      most = net.most;
      room = net.room;
      cells = λ L v l m. omega (arith, net.places L v l m, net.even (omega arith));
      exits = net.exits;
    }

    pub reached_fresh : Reached fresh_board [] []
    unfolding entered_on sum_of
    reached_fresh = record { shaped = shaped_fresh; is_sound = fresh_sound w d; kept = kept_fresh fits }

    module _ {x : Board} {entries : List ℕ} {dealt : List Deal} (r : Reached x entries dealt) where
      pub reached_inside : (t : ℕ) → t < 256 → (place_at x t).inside ≡ true → Inside w d (place_at x t)
      reached_inside t l i = inside_at w d x t r.shaped.places r.is_sound l i

      leads : (t : ℕ) → Leads w d (place_at x t) (feeds x t) (exit_at x t)
      leads t = record {
        most = net.most;
        even = λ l. net.even (omega arith);
        place = λ l v. net.places (place_at x t).level (place_at x t).wire l v;
        out = λ v. net.exits (place_at x t).wire v;
      }

      -- one more on wire v
      more_entries : (v : ℕ) → ◌≡◌ {A = ℕ → ℕ} (λ u. entered_on u entries + one 0 v 0 u) (λ u. entered_on u (entries ++ (v ∷ [])))
      more_entries v = fun_ext (λ u. omega (arith, entered_on_append u entries (v ∷ []), entered_on_one u v, one_same 0 v u))

      kept_comes : {call : Call} {b : Board} {es : List ℕ} {e : List Deal} → Comes x call b es e
          → Kept w d cell exit (seen_of w b) (λ v. entered_on v (entries ++ es)) (dealt ++ e)
      kept_comes (Comes.enter_refused n) = rw (append-nil entries, append-nil dealt) r.kept
      kept_comes (Comes.enter_taken {u} {v} can) =
          rw (append-nil dealt)
          (subst (λ (es : ℕ → ℕ). Kept w d cell exit (seen_of w (entering x u v)) es dealt) (more_entries v)
          (kept_entering fits r.shaped u can.token r.kept v can.wire can.free))
      kept_comes (Comes.turn_refused n) = rw (append-nil entries, append-nil dealt) r.kept
      kept_comes (Comes.turn_passes {u} can l) =
          let at = reached_inside u can.token can.inside in
          rw (append-nil entries, append-nil dealt)
          (kept_passing fits r.shaped u can.token can.inside at.wire r.kept (feeds x u) l refl)
      kept_comes (Comes.turn_deals {u} can l) =
          let at = reached_inside u can.token can.inside in
          rw (append-nil entries)
          (kept_dealing fits r.shaped u can.token can.inside at.wire r.kept (omega (arith, at.level)))

      pub reached_call : (call : Call)
          → Reached (board_call x call).run (entries ++ (board_call x call).entries) (dealt ++ (board_call x call).deals)
      unfolding board_call turned
      reached_call (enter t v) = record {
        shaped = shaped_enter x r.shaped true w t v;
        is_sound = enter_sound true w d x t v r.shaped r.is_sound;
        kept = kept_comes (comes x (enter t v));
      }
      reached_call (turn t) = record {
        shaped = shaped_turn x r.shaped true w d t (feeds x t) (exit_at x t);
        is_sound = turn_sound true w d x t (feeds x t) (exit_at x t) r.shaped (leads t) r.is_sound;
        kept = kept_comes (comes x (turn t));
      }

      -- ---- at rest the counts are what flows through the rows and the exits
      pub rest_counts_lem : inside_sum x ≡ 0 → (i : ℕ) → i < w
          → count_at x i ≡ csum w exit (flow w cell (λ v. entered_on v entries) d) i
      rest_counts_lem none i l =
          count_rest w d cell exit (seen_of w x) (λ v. entered_on v entries) r.kept.gone r.kept.balanced
          (λ L v m k. none_on x L v none) i l

    pub reached_calls : (calls : List Call) {x : Board} {entries : List ℕ} {dealt : List Deal} → Reached x entries dealt
        → Reached (calls_by board_call x calls).run (entries ++ (calls_by board_call x calls).entries) (dealt ++ (calls_by board_call x calls).deals)
    unfolding calls_by
    reached_calls [] {x} {entries} {dealt} r = rw (append-nil entries, append-nil dealt) r
    reached_calls (call ∷ rest) {x} {entries} {dealt} r =
        rw (append_assoc entries, append_assoc dealt) at (reached_calls rest (reached_call r call))

  -- ---- a record's calls are those of its board, where each call is
  module _ {R : Type 0} (step : R → Call → After R) (board : R → Board) where
    abbrev pub on_board : After R → After Board
    on_board y = record { run = board y.run; entries = y.entries; deals = y.deals }

    pub record Steps (Good : R → Type 0) (x : R) (call : Call) : Type 0 where
      pub good : Good (step x call).run
      pub same : on_board (step x call) ≡ board_call (board x) call

    pub calls_on_board : (Good : R → Type 0) → ((x : R) (call : Call) → Good x → Steps Good x call)
        → (calls : List Call) (x : R) → Good x
        → Good (calls_by step x calls).run × (on_board (calls_by step x calls) ≡ calls_by board_call (board x) calls)
    unfolding calls_by
    calls_on_board Good one [] x g = (g, refl)
    calls_on_board Good one (call ∷ rest) x g =
        let s = one x call g in
        let then = calls_on_board Good one rest (step x call).run s.good in
        (then.0, rw (← s.same, ← then.1))
