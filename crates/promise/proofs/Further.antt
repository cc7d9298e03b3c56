-- What else holds of every history: `true_counts`, `one_by_one`, `few_gaps`, `nonblocking`. Assumes nothing.
use Prim.Native.Nat.{ℕ, suc, ◌+◌, ◌-◌, ◌*◌, ◌/◌, ◌%◌, ◌≤◌, ◌<◌}
use mathlib.Core.Path.{◌≡◌, refl, ap}
use mathlib.Core.Bool.{true}
use mathlib.Core.List.{List, [], ◌∷◌, ◌++◌}
use native.Mathlib.Nat.{mod-lt, div-add-mod', mul-le-mul_left}
use native.Mathlib.Decide.{ℕ_discrete, dec_lt, dec_le}
use native.Mathlib.Omega.{arith}
use lib.ListN.{length, length-append}
use Rattle.rest.specs.Sum.{only, sum}
use Rattle.rest.specs.Share.{share}
use Rattle.rest.proofs.Sum.{only_same, only_other, term_le_sum, sum_append}
use Rattle.rest.proofs.Share.{share_own, lt_share}
use Rattle.board.specs.declared.Board.{Board}
use Rattle.board.specs.Board.{place_at, count_at}
use Rattle.board.specs.Sound.{inside_sum}
use Rattle.moves.specs.Enter.{at}
use Rattle.run.specs.declared.Run.{Run}
use Rattle.run.specs.Run.{enter_of}
use Rattle.promise.specs.History.{Call, enter, Deal, After, call_of, calls_of, calls_by, history, times, dealt_to, dealt_at}
use Rattle.promise.specs.Promise.{Promise}
use Rattle.promise.specs.Further.{TrueCounts, NextNumber, OneByOne, undealt, Gaps, FewGaps, Nonblocking}
use Rattle.promise.proofs.Book.{Book, below_yes, times_append, times_one, dealt_to_one, dealt_at_append, dealt_at_one, undealt_short}
use Rattle.promise.proofs.Record.{none_inside}
use Rattle.promise.proofs.Builds.{builds_fit}
use Rattle.promise.proofs.Reached.{Reached, reached_size, history_reached, reached_call, reached_calls, width_calls, history_width, history_depth}
use Rattle.promise.proofs.Promise.{reached_promise}
use Rattle.promise.proofs.Pace.{inside_token}
use Rattle.promise.proofs.Own.{reached_stands, reached_paced, reached_dealt}

-- ---- the record's counts
pub true_counts : TrueCounts
true_counts = record {
  holds = λ w c calls i ok l. (history_reached w c ok calls).keeping.kept.counted i (rw (history_width w c ok calls) l);
}

-- ---- one after another
-- at rest each exit has dealt its share
rest_count : (w : ℕ) (x : Board) (dealt : List Deal) → Promise w x dealt → inside_sum x ≡ 0
    → (i : ℕ) → i < w → count_at x i ≡ share x.entered i w
rest_count w x dealt p z i l =
    omega (arith, p.at_most i l, p.shortfalls, term_le_sum w (λ j. share x.entered j w - count_at x j) i l)

only→same : (a b : ℕ) → 0 < only a b 1 → a ≡ b
only→same a b l = elim (ℕ_discrete a b) [ yes e ↦ e | no n ↦ absurd (omega (arith, only_other a b 1 n)) ]

-- a list of one deal, by what is counted of it
one_deal : (t i n : ℕ) (dealt : List Deal) → length dealt ≡ 1 → ((v : ℕ) → 0 < times v dealt → v ≡ n) → dealt_at i dealt ≡ 1
    → 0 < dealt_to t dealt
    → dealt ≡ record { token = t; exit = i; number = n } ∷ []
one_deal t i n [] size numbers at to = absurd (omega arith)
one_deal t i n (e ∷ f ∷ rest) size numbers at to = absurd (omega arith)
one_deal t i n (e ∷ []) size numbers at to =
    let number : e.number ≡ n
    = numbers e.number (omega (arith, times_one e.number e, only_same e.number e.number 1 refl)) in
    let exit : e.exit ≡ i = only→same e.exit i (omega (arith, dealt_at_one i e)) in
    let token : e.token ≡ t = only→same e.token t (omega (arith, dealt_to_one t e)) in
    rw (← number, ← exit, ← token)

module _ (x : Run) (dealt : List Deal) (r : Reached x dealt) (t v : ℕ) (calls : List Call) where
  abbrev w : ℕ
  w = x.width

  abbrev m : ℕ
  m = x.board.entered

  abbrev y : After Run
  y = calls_of x (enter t v ∷ calls)

  rests : Reached y.run (dealt ++ y.deals)
  rests = reached_calls r (enter t v ∷ calls)

  promised : Promise w y.run.board (dealt ++ y.deals)
  promised = rw (width_calls (enter t v ∷ calls) x) at (reached_promise rests)

  -- the request is done, and was not before its number was dealt
  dealt_own : (enter_of x t v).refusal ≡ 0 → inside_sum y.run.board ≡ 0 → 0 < dealt_to t y.deals
  unfolding calls_of calls_by call_of
  dealt_own taken z =
      let first = (call_of x (enter t v)).run in
      let s : Reached first (dealt ++ []) = reached_call r (enter t v) in
      let inside : (place_at first.board t).inside ≡ true = rw (reached_stands r t v taken) in
      elim (dec_lt 0 (dealt_to t (calls_of first calls).deals)) [
        | yes some ↦ some
        | no none ↦
            let still = ((reached_paced s calls t).least inside (omega arith)).0 in
            let token = inside_token first.board t s.keeping.shaped inside in
            absurd (omega (arith, rw still at (none_inside y.run.board t rests.keeping.shaped token z)))
      ]

  numbers : inside_sum x.board ≡ 0 → y.run.board.entered ≡ m + 1 → (u : ℕ) → 0 < times u y.deals → u ≡ m
  numbers none one u l =
      let both : times u (dealt ++ y.deals) ≡ times u dealt + times u y.deals = times_append u dealt y.deals in
      let below : u < y.run.board.entered = promised.below u (omega arith) in
      elim (dec_lt u m) [
        | yes old ↦ absurd (omega (arith, promised.once u, (reached_promise r).at_rest none u old))
        | no new ↦ omega arith
      ]

  exits : inside_sum x.board ≡ 0 → inside_sum y.run.board ≡ 0 → y.run.board.entered ≡ m + 1 → dealt_at (m % w) y.deals ≡ 1
  exits none done one =
      let i = m % w in
      let l : i < w = mod-lt m (builds_fit w x.construction r.allowed).some in
      let e : y.run.board.entered ≡ suc m = omega arith in
      omega (
        arith,
        rest_count w x.board dealt (reached_promise r) none i l,
        rest_count w y.run.board (dealt ++ y.deals) promised done i l,
        ap (λ n. share n i w) e,
        share_own w (builds_fit w x.construction r.allowed).some m,
        r.keeping.kept.counted i l,
        rests.keeping.kept.counted i (rw (width_calls (enter t v ∷ calls) x) l),
        dealt_at_append i dealt y.deals,
      )

  next_number : NextNumber w x t v calls
  next_number = record {
    dealt = λ none taken done one.
        one_deal t (m % w) m y.deals
        (omega (arith, reached_size r, rw length-append at (reached_size rests)))
        (numbers none one)
        (exits none done one)
        (dealt_own taken done);
  }

pub one_by_one : OneByOne
one_by_one = record {
  holds = λ w c before t v calls ok.
      rw (history_width w c ok before) at
      (next_number (history w c before).run (history w c before).deals (history_reached w c ok before) t v calls);
}

-- ---- the gaps
sum_le : (m n : ℕ) (f : ℕ → ℕ) → m ≤ n → sum m f ≤ sum n f
sum_le m n f l =
    let e : n ≡ m + (n - m) = omega arith in
    rw e (omega (arith, sum_append m (n - m) f))

module _ (w : ℕ) (pos : 0 < w) (x : Board) (dealt : List Deal) (book : Book w (count_at x) dealt) (p : Promise w x dealt) where
  few : (h : ℕ) → 0 < times h dealt → undealt h dealt ≤ inside_sum x
  unfolding undealt
  few h l =
      omega (
        arith,
        sum_le h x.entered (λ v. 1 - times v dealt) (omega (arith, p.below h l)),
        undealt_short w pos (count_at x) dealt book x.entered,
        p.shortfalls,
      )

  -- an undealt number's exit is short of all its numbers from there to h
  nearer : (h v : ℕ) → times v dealt ≡ 0 → h ≤ v + w * undealt h dealt
  nearer h v z = elim (dec_le h (v + w * undealt h dealt)) [
    | yes l ↦ l
    | no far ↦
        let i = v % w in
        let q = v / w in
        let n = undealt h dealt in
        let past : q + n < share h i w = lt_share w pos h i (q + n) (omega (arith, div-add-mod' v w)) in
        let short : share h i w - count_at x i ≤ n
        = rw (undealt_short w pos (count_at x) dealt book h) (term_le_sum w (λ j. share h j w - count_at x j) i (mod-lt v pos)) in
        elim (dec_lt q (count_at x i)) [
          | yes l ↦ absurd (omega (arith, book v, below_yes q (count_at x i) l))
          | no l ↦ absurd (omega arith)
        ]
  ]

  book_gaps : (h : ℕ) → 0 < times h dealt → Gaps w h x dealt
  book_gaps h l = record {
    few = few h l;
    near = λ v k z. omega (arith, nearer h v z, mul-le-mul_left {m = undealt h dealt} {n = inside_sum x} w (few h l));
    nearer = λ v k z. omega (arith, nearer h v z);
  }

pub few_gaps : FewGaps
few_gaps = record {
  holds = λ w c calls h ok l.
      let r = history_reached w c ok calls in
      rw (history_width w c ok calls) at
      (book_gaps _ (builds_fit _ _ r.allowed).some _ _ r.keeping.kept.book (reached_promise r) h l);
}

-- ---- nonblocking
pub nonblocking : Nonblocking
nonblocking = record {
  holds = λ w c before t calls ok i l.
      reached_dealt (history_reached w c ok before) calls t i (rw (history_depth w c ok before, i) l);
}
