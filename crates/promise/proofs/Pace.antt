-- A token's pace on the board of any layered network: it goes up one level on each turn of its own, whatever the others do, and at
-- the last level its turn deals. In order: paces; one call; calls; turns enough; an entry. Assumes nothing.
use Prim.Native.Nat.{ℕ, suc, ◌+◌, ◌*◌, ◌≤◌, ◌<◌}
use mathlib.Core.Path.{◌≡◌, refl, ap, sym, ◌∙◌}
use mathlib.Core.Bool.{true, false, cond}
use mathlib.Core.List.{List, [], ◌∷◌}
use mathlib.Core.Logic.{◌≢◌}
use native.Mathlib.Nat.{mul-add, mul-le-mul_left}
use native.Mathlib.Decide.{ℕ_discrete, dec_lt}
use native.Mathlib.Omega.{arith}
use borrow.Author.Tests.{le-ltb}
use Rattle.std.proofs.lemmas.Bool.{false≢true}
use Rattle.order.specs.Order.{first_of}
use Rattle.rest.proofs.Sum.{only_same, only_other}
use Rattle.board.specs.declared.Place.{Place}
use Rattle.board.specs.declared.Board.{Board}
use Rattle.board.specs.Board.{free_place, place_at}
use Rattle.board.specs.Sound.{sum_of}
use Rattle.board.proofs.Lists.{read_out}
use Rattle.board.proofs.Sound.{Shaped}
use Rattle.moves.specs.Enter.{at, enter_no}
use Rattle.moves.specs.Turn.{turn_no}
use Rattle.moves.proofs.Seen.{place_entering, place_entering_other, place_passing, place_passing_other, place_dealing, place_dealing_other}
use Rattle.promise.specs.History.{Call, enter, turn, Deal, calls_by, dealt_to, turns_of}
use Rattle.promise.specs.Own.{Own}
use Rattle.promise.proofs.Book.{dealt_to_append, dealt_to_one}
use Rattle.promise.proofs.Record.{deal_at}
use Rattle.promise.proofs.Boards.{Layered, feeds, exit_at, board_call, Comes, comes, Reached, reached_inside, reached_call, reached_calls}

-- the level of a token inside, and 0 of a free one
abbrev pub level_of : Place → ℕ
level_of p = cond p.inside p.level 0

-- A token comes from place p to place q by k turns of its own, and is dealt n numbers. Each number takes d + 1 turns; and a token
-- inside that is dealt none goes up a level by each.
pub record Paced (d : ℕ) (p q : Place) (n k : ℕ) : Type 0 where
  pub most : (d + 1) * n + level_of q ≤ level_of p + k
  pub least : p.inside ≡ true → n ≡ 0 → (q.inside ≡ true) × (level_of q ≡ level_of p + k)

module _ (d : ℕ) where
  paced_stays : (p q : Place) (n k : ℕ) → q ≡ p → n ≡ 0 → k ≡ 0 → Paced d p q n k
  paced_stays p q n k e z y = rw (e, z, y) (record { most = omega arith; least = λ i o. (i, omega arith) })

  paced_join : {p q s : Place} {n m k j : ℕ} → Paced d p q n k → Paced d q s m j → Paced d p s (n + m) (k + j)
  paced_join {p} {q} {s} {n} {m} {k} {j} a b = record {
    most = omega (arith, a.most, b.most, mul-add (d + 1) n m);
    least = λ i o.
        let first = a.least i (omega arith) in
        let then = b.least first.0 (omega arith) in
        (then.0, omega (arith, first.1, then.1));
  }

-- what is inside is a token
pub inside_token : (x : Board) (t : ℕ) → Shaped x → (place_at x t).inside ≡ true → t < 256
unfolding place_at
inside_token x t s i = elim (dec_lt t 256) [
  | yes l ↦ l
  | no l ↦ absurd (false≢true (ap (λ p. p.inside) (read_out free_place x.places 256 t s.places (omega arith)) ∙ i))
]

turns_own : (t : ℕ) → turns_of t (turn t ∷ []) ≡ 1
unfolding turns_of
turns_own t = omega (arith, only_same t t 1 refl)

turns_other : (t u : ℕ) → u ≢ t → turns_of t (turn u ∷ []) ≡ 0
unfolding turns_of
turns_other t u n = omega (arith, only_other u t 1 n)

turns_cons : (t : ℕ) (call : Call) (rest : List Call) → turns_of t (call ∷ rest) ≡ turns_of t (call ∷ []) + turns_of t rest
unfolding turns_of
turns_cons t (enter u v) rest = omega arith
turns_cons t (turn u) rest = omega arith

dealt_none : (t : ℕ) → dealt_to t [] ≡ 0
unfolding dealt_to sum_of
dealt_none t = refl

-- by k turns at most k / (d + 1) numbers
few_numbers : (d n a k j : ℕ) → (d + 1) * n + a ≤ k → k < (d + 1) * suc j → n ≤ j
few_numbers d n a k j h l = elim (dec_lt j n) [
  | yes more ↦ absurd (omega (arith, mul-le-mul_left {m = suc j} {n = n} (d + 1) more))
  | no most ↦ omega arith
]

module _ {w d : ℕ} {row : ℕ → ℕ → ℕ} {exit : ℕ → ℕ} (net : Layered w d row exit) where
  -- ---- one call
  module _ {x : Board} {entries : List ℕ} {dealt : List Deal} (r : Reached w d row exit x entries dealt) (t : ℕ) where
    abbrev p : Place
    p = place_at x t

    -- a token inside is not refused its turn
    pub turn_taken : (place_at x t).inside ≡ true → turn_no true x t ≡ 0
    unfolding turn_no first_of
    turn_taken i =
        let l : t < 256 = inside_token x t r.shaped i in
        rw (le-ltb 255 t (omega arith), i)

    paced_comes : {call : Call} {b : Board} {es : List ℕ} {e : List Deal} → Comes w d row exit x call b es e
        → Paced d p (place_at b t) (dealt_to t e) (turns_of t (call ∷ []))
    unfolding turns_of
    paced_comes (Comes.enter_refused n) = paced_stays d p p _ _ refl (dealt_none t) refl
    paced_comes (Comes.enter_taken {u} {v} can) = elim (ℕ_discrete t u) [
      | yes q ↦ rw (q, place_entering x u v r.shaped can.token, dealt_none u) (record {
        most = omega arith;
        least = λ i o. absurd (false≢true (sym can.free ∙ i));
      })
      | no n ↦ paced_stays d p _ _ _ (place_entering_other x u v t n) (dealt_none t) refl
    ]
    paced_comes (Comes.turn_refused {u} not) = elim (ℕ_discrete t u) [
      | yes q ↦ rw (dealt_none t) (record { most = omega arith; least = λ i o. absurd (not (rw q at (turn_taken i))) })
      | no n ↦ paced_stays d p p _ _ refl (dealt_none t) (turns_other t u (λ q. n (sym q)))
    ]
    paced_comes (Comes.turn_passes {u} can l) =
        let f = feeds w d row exit x u in
        elim (ℕ_discrete t u) [
          | yes q ↦ rw (q, place_passing w x u f r.shaped can.token, dealt_none u) (record {
            most = rw can.inside (omega (arith, turns_own u));
            least = λ i o. (refl, rw can.inside (omega (arith, turns_own u)));
          })
          | no n ↦ paced_stays d p _ _ _ (place_passing_other w x u f t n) (dealt_none t) (turns_other t u (λ q. n (sym q)))
        ]
    paced_comes (Comes.turn_deals {u} can l) =
        let i = exit_at w d row exit x u in
        let e = deal_at w x u i in
        elim (ℕ_discrete t u) [
          | yes q ↦
              let one : dealt_to u (e ∷ []) ≡ 1 = dealt_to_one u e ∙ only_same u u 1 refl in
              rw (q, place_dealing w x u i r.shaped can.token, one) (record {
                most = rw can.inside (omega (arith, turns_own u));
                least = λ i o. absurd (omega arith);
              })
          | no n ↦ paced_stays d p _ _ _ (place_dealing_other w x u i t n)
              (dealt_to_one t e ∙ only_other u t 1 (λ q. n (sym q))) (turns_other t u (λ q. n (sym q)))
        ]

    -- where a token stands that has just entered
    pub entered_stands : (v : ℕ) → enter_no true w x t v ≡ 0 → place_at (board_call w d row exit x (enter t v)).run t ≡ at 0 v
    entered_stands v taken = go (comes w d row exit x (enter t v))
      where
        go : {b : Board} {es : List ℕ} {e : List Deal} → Comes w d row exit x (enter t v) b es e → place_at b t ≡ at 0 v
        go (Comes.enter_refused n) = absurd (n taken)
        go (Comes.enter_taken can) = place_entering x t v r.shaped can.token

  -- ---- calls
  pub paced_calls : (calls : List Call) {x : Board} {entries : List ℕ} {dealt : List Deal} → Reached w d row exit x entries dealt
      → (t : ℕ) → Paced d (place_at x t) (place_at (calls_by (board_call w d row exit) x calls).run t)
      (dealt_to t (calls_by (board_call w d row exit) x calls).deals) (turns_of t calls)
  unfolding calls_by turns_of
  paced_calls [] r t = paced_stays d _ _ _ _ refl (dealt_none t) refl
  paced_calls (call ∷ rest) {x} {entries} {dealt} r t =
      let first = board_call w d row exit x call in
      rw (dealt_to_append t first.deals (calls_by (board_call w d row exit) first.run rest).deals, turns_cons t call rest)
      (paced_join d (paced_comes r t (comes w d row exit x call)) (paced_calls rest (reached_call w d row exit net r call) t))

  -- ---- a token inside that has had turns enough was dealt a number
  pub paced_dealt : (calls : List Call) {x : Board} {entries : List ℕ} {dealt : List Deal} → Reached w d row exit x entries dealt
      → (t : ℕ) → (place_at x t).inside ≡ true → d + 1 ≤ level_of (place_at x t) + turns_of t calls
      → 0 < dealt_to t (calls_by (board_call w d row exit) x calls).deals
  paced_dealt calls {x} r t i l =
      let y = calls_by (board_call w d row exit) x calls in
      elim (dec_lt 0 (dealt_to t y.deals)) [
        | yes some ↦ some
        | no none ↦
            let after = (paced_calls calls r t).least i (omega arith) in
            let at = reached_inside w d row exit net (reached_calls w d row exit net calls r) t (inside_token x t r.shaped i) after.0 in
            let level : level_of (place_at y.run t) ≡ (place_at y.run t).level = rw after.0 in
            absurd (omega (arith, after.1, level, at.level))
      ]

  -- ---- an entry: its number is dealt on its own turn d + 1
  pub paced_own : {x : Board} {entries : List ℕ} {dealt : List Deal} → Reached w d row exit x entries dealt
      → (t v : ℕ) (calls : List Call) → enter_no true w x t v ≡ 0
      → Own d t calls (calls_by (board_call w d row exit) x (enter t v ∷ calls)).deals
  unfolding calls_by board_call
  paced_own {x} r t v calls taken =
      let y = (board_call w d row exit x (enter t v)).run in
      let s = reached_call w d row exit net r (enter t v) in
      let stands : place_at y t ≡ at 0 v = entered_stands r t v taken in
      let n = dealt_to t (calls_by (board_call w d row exit) y calls).deals in
      let few : (d + 1) * n + level_of (place_at (calls_by (board_call w d row exit) y calls).run t) ≤ turns_of t calls
      = omega (arith, rw stands at (paced_calls calls s t).most) in
      record {
        not_before = λ l. omega (arith, few_numbers d n _ (turns_of t calls) 0 few (omega arith));
        then_dealt = λ e.
            omega (
              arith,
              few_numbers d n _ (turns_of t calls) 1 few (omega arith),
              paced_dealt calls s t (rw stands) (rw stands (omega arith)),
            );
      }
