-- What a turn tells of the cell that it passed: `turns_name`; and the passes of one request: `traces`. In order: one turn; a token's
-- place stays until its own turn; passes; an entry. Assumes nothing.
use Prim.Native.Nat.{ℕ, zero, suc, ◌+◌, ◌/◌, ◌≤◌, ◌<◌}
use mathlib.Core.Path.{◌≡◌, refl, ap, sym, ◌∙◌}
use mathlib.Core.Bool.{true, false}
use mathlib.Core.List.{List, [], ◌∷◌, ◌++◌}
use native.Mathlib.Decide.{ℕ_discrete}
use native.Mathlib.Omega.{arith}
use borrow.Author.Tests.{eq-eqb, ne_eqb}
use Rattle.std.proofs.lemmas.Bool.{false≢true}
use Rattle.network.specs.Widths.{depth_of}
use Rattle.rest.specs.Sum.{only}
use Rattle.rest.proofs.Sum.{only_same, only_other}
use Rattle.board.specs.declared.Place.{Place}
use Rattle.board.specs.declared.Board.{Board}
use Rattle.board.specs.Board.{place_at}
use Rattle.moves.specs.Answer.{Values, values_of}
use Rattle.moves.specs.Turn.{passing, dealing}
use Rattle.moves.proofs.Keeps.{cell_below}
use Rattle.moves.proofs.Seen.{cell_apart, place_entering_other, place_passing, place_passing_other, place_dealing_other, down_passing, down_passing_other}
use Rattle.run.specs.declared.Run.{Run}
use Rattle.run.specs.Run.{depth_in, feeds_of, enter_of, turn_of}
use Rattle.promise.specs.History.{Call, enter, turn, Deal, call_of, history, turns_of}
use Rattle.promise.specs.Trace.{Names, NamesNone, TurnsName, pass_of, passes_of, Trace, done, next, Traces}
use Rattle.promise.proofs.Boards.{Turns, Comes}
use Rattle.promise.proofs.Pace.{turn_taken}
use Rattle.promise.proofs.Reached.{TurnsIn, ComesIn, Reached, reached_layered, reached_fits, reached_inside, turns, comes, history_reached, reached_call, history_width, history_construction, history_depth}
use Rattle.promise.proofs.Own.{reached_stands}

-- ---- one turn
module _ (x : Run) (dealt : List Deal) (r : Reached x dealt) (t : ℕ) where
  abbrev p : Place
  p = place_at x.board t

  abbrev c : ℕ
  c = feeds_of x t / 2

  names_passing : t < 256 → p.inside ≡ true → p.level < depth_in x
      → Names x.width (depth_in x) x.board (passing x.width x.board t (feeds_of x t)).board
      (values_of (passing x.width x.board t (feeds_of x t)).answer)
  unfolding values_of passing feeds_of
  names_passing token inside l =
      let w = x.width in
      let d = depth_in x in
      let room = reached_fits r in
      let is-cell : c < w / 2 = room.cells p.level p.wire l (reached_inside r t token inside).wire in
      record {
        level = refl;
        wire = refl;
        layer = l;
        cell = is-cell;
        outlet = refl;
        flipped = down_passing w x.board t (feeds_of x t) r.keeping.shaped (omega (arith, cell_below w d p.level c l is-cell, room.room));
        others = λ K b k n apart. down_passing_other w x.board t (feeds_of x t) K b (λ q. apart (cell_apart w K b p.level c n is-cell q));
      }

  names : {a : Values} {b : Board} → TurnsIn x t a b → a.passed ≡ true → Names x.width (depth_in x) x.board b a
  unfolding values_of dealing feeds_of
  names (Turns.refused n) e = absurd (false≢true e)
  names (Turns.passes can l) e = names_passing can.token can.inside l
  names (Turns.deals can l) e = absurd (false≢true e)

  names_none : {a : Values} {b : Board} → TurnsIn x t a b → a.passed ≡ false → NamesNone x.board b a
  unfolding values_of passing dealing
  names_none (Turns.refused n) e = record { none = (refl, refl, refl); toggles = refl }
  names_none (Turns.passes can l) e = absurd (false≢true (sym e))
  names_none (Turns.deals can l) e = record { none = (refl, refl, refl); toggles = refl }

reached_names : {x : Run} {dealt : List Deal} → Reached x dealt → (w d t : ℕ) → x.width ≡ w → depth_in x ≡ d
    → (values_of (turn_of x t).answer).passed ≡ true → Names w d x.board (turn_of x t).run.board (values_of (turn_of x t).answer)
reached_names {x} {dealt} r w d t wide deep e = rw (← wide, ← deep) (names x dealt r t (turns r t) e)

pub turns_name : TurnsName
turns_name = record {
  holds = λ w c calls t ok.
      let r = history_reached w c ok calls in
      record {
        passed = reached_names r w (depth_of w c) t (history_width w c ok calls) (history_depth w c ok calls);
        else = names_none (history w c calls).run (history w c calls).deals r t (turns r t);
      };
}

-- ---- a token's place stays until its own turn
module _ (x : Run) (t : ℕ) (inside : (place_at x.board t).inside ≡ true) where
  stays : {call : Call} {b : Board} {es : List ℕ} {e : List Deal} → ComesIn x call b es e → (call ≡ turn t → ⊥)
      → place_at b t ≡ place_at x.board t
  unfolding feeds_of
  stays (Comes.enter_refused n) other = refl
  stays (Comes.enter_taken {u} {v} can) other = elim (ℕ_discrete t u) [
    | yes q ↦ absurd (false≢true (sym (rw q can.free) ∙ inside))
    | no n ↦ place_entering_other x.board u v t n
  ]
  stays (Comes.turn_refused n) other = refl
  stays (Comes.turn_passes {u} can l) other =
      place_passing_other x.width x.board u (feeds_of x u) t (λ q. other (ap turn (sym q)))
  stays (Comes.turn_deals {u} can l) other =
      place_dealing_other x.width x.board u (place_at x.board u).wire t (λ q. other (ap turn (sym q)))

-- ---- passes
-- A token at level L has k turns, of which n are passes: all of them on the way, and all but the last where that one deals.
data Many (d L k n : ℕ) : Type 0 where
  on_way : k ≡ n → L + n ≤ d → Many d L k n
  at_exit : k ≡ n + 1 → L + n ≡ d → Many d L k n

many_less : {d L k n : ℕ} → Many d L (suc k) (suc n) → Many d (L + 1) k n
many_less (on_way e b) = on_way (omega arith) (omega arith)
many_less (at_exit e b) = at_exit (omega arith) (omega arith)

-- with no turns there are no passes
no_turns : (t : ℕ) (calls : List Call) (x : Run) → turns_of t calls ≡ 0 → passes_of t x calls ≡ []
unfolding turns_of passes_of
no_turns t [] x z = refl
no_turns t (enter u v ∷ rest) x z = no_turns t rest (enter_of x u v).run z
no_turns t (turn u ∷ rest) x z = elim (ℕ_discrete u t) [
  | yes q ↦ absurd (omega (arith, only_same u t 1 q))
  | no n ↦ rw (ne_eqb u t n) (no_turns t rest (turn_of x u).run (omega arith))
]

module _ (x : Run) (dealt : List Deal) (r : Reached x dealt) (t : ℕ) (inside : (place_at x.board t).inside ≡ true) where
  -- its own turn, and then k further turns, whose passes are the rest
  own_turn : {a : Values} {b : Board} {k : ℕ} {rest : List Values} → TurnsIn x t a b
      → ((m : ℕ) → (place_at b t).inside ≡ true → Many (depth_in x) (place_at b t).level k m
      → Trace x.width x.construction (place_at b t).level (place_at b t).wire m rest)
      → (k ≡ 0 → rest ≡ []) → (n : ℕ) → Many (depth_in x) (place_at x.board t).level (suc k) n
      → Trace x.width x.construction (place_at x.board t).level (place_at x.board t).wire n (pass_of a ++ rest)
  unfolding values_of passing dealing feeds_of
  own_turn (Turns.refused not) then none n many = absurd (not (turn_taken (reached_layered r) r.keeping t inside))
  own_turn (Turns.passes can l) then none zero (on_way e b) = absurd (omega arith)
  own_turn (Turns.passes can l) then none zero (at_exit e b) = absurd (omega arith)
  own_turn (Turns.passes can l) then none (suc m) many =
      let stands = place_passing x.width x.board t (feeds_of x t) r.keeping.shaped can.token in
      next refl refl ((rw stands at (then m)) refl (many_less many))
  own_turn (Turns.deals can l) then none n (on_way e b) = absurd (omega arith)
  own_turn (Turns.deals can l) then none zero (at_exit e b) = rw (none (omega arith)) done
  own_turn (Turns.deals can l) then none (suc m) (at_exit e b) = absurd (omega arith)

traced : (calls : List Call) {x : Run} {dealt : List Deal} → Reached x dealt → (t : ℕ) → (place_at x.board t).inside ≡ true
    → (n : ℕ) → Many (depth_in x) (place_at x.board t).level (turns_of t calls) n
    → Trace x.width x.construction (place_at x.board t).level (place_at x.board t).wire n (passes_of t x calls)
unfolding turns_of passes_of call_of enter_of turn_of depth_in
traced [] r t inside zero many = done
traced [] r t inside (suc n) (on_way e b) = absurd (omega arith)
traced [] r t inside (suc n) (at_exit e b) = absurd (omega arith)
traced (enter u v ∷ rest) {x} {dealt} r t inside n many =
    let stands = stays x t inside (comes r (enter u v)) (λ q. let z : ◌≡◌ {A = ℕ} 0 1 = cc in omega arith) in
    (rw stands at (traced rest (reached_call r (enter u v)) t)) inside n many
traced (turn u ∷ rest) {x} {dealt} r t inside n many = elim (ℕ_discrete u t) [
  | yes q ↦
      let one : only u t 1 + turns_of t rest ≡ suc (turns_of t rest) = omega (arith, only_same u t 1 q) in
      rw (q, eq-eqb t t refl)
      (own_turn x dealt r t inside (turns r t) (λ m is-in many. traced rest (reached_call r (turn t)) t is-in m many)
      (no_turns t rest (turn_of x t).run) n (rw one at many))
  | no m ↦
      let none : only u t 1 + turns_of t rest ≡ turns_of t rest = omega (arith, only_other u t 1 m) in
      let stands = stays x t inside (comes r (turn u)) (λ q. m cc) in
      rw (ne_eqb u t m) ((rw stands at (traced rest (reached_call r (turn u)) t)) inside n (rw none at many))
]

-- ---- an entry
reached_traced : (x : Run) (dealt : List Deal) → Reached x dealt → (t v : ℕ) (calls : List Call) → (enter_of x t v).refusal ≡ 0
    → (n : ℕ) → Many (depth_in x) 0 (turns_of t calls) n → Trace x.width x.construction 0 v n (passes_of t x (enter t v ∷ calls))
unfolding passes_of call_of enter_of depth_in
reached_traced x dealt r t v calls taken =
    let stands = reached_stands r t v taken in
    (rw stands at (traced calls (reached_call r (enter t v)) t)) refl

pub traces : Traces
traces = record {
  holds = λ w c before t v calls ok taken.
      let x = (history w c before).run in
      let go = rw (history_width w c ok before, history_construction w c ok before, history_depth w c ok before) at
      (reached_traced x (history w c before).deals (history_reached w c ok before) t v calls taken) in
      record {
        on_the_way = λ l. go (turns_of t calls) (on_way refl (omega arith));
        whole = λ e. go (depth_of w c) (at_exit e (omega arith));
      };
}
