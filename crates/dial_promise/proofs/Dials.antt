-- Each dial follows what the calls tell of its exit. In order: a deal; a poll; a call; calls. Assumes nothing.
use Prim.Native.Nat.{ℕ, ◌+◌, ◌%◌, ◌<◌}
use mathlib.Core.Path.{◌≡◌, refl, sym, ◌∙◌}
use mathlib.Core.Bool.{Bool, true, false, cond}
use mathlib.Core.List.{List, [], ◌∷◌, map}
use native.Mathlib.Nat.{add-zero, add_assoc}
use native.Mathlib.Decide.{ℕ_discrete}
use native.Mathlib.Omega.{arith}
use lib.Dec.{eqb}
use lib.ListN.{length, length-set, length-replicate, get_or-replicate}
use lib.Seq.{get_or-set_same, get_or-set_other}
use borrow.Author.Tests.{eq-eqb, ne_eqb}
use Rattle.rest.proofs.Sum.{only_same, only_other}
use Rattle.moves.specs.Answer.{Values, values_of}
use Rattle.run.specs.Run.{turn_of}
use Rattle.promise.specs.History.{enter, turn, Deal, deal_of}
use Rattle.dials.specs.declared.Dial.{Dial}
use Rattle.dials.specs.Dials.{round, sum_round, open_dial, advance_of, yield_of, poll_of}
use Rattle.small.specs.declared.Cabinet.{Cabinet}
use Rattle.small.specs.Small.{dial_at, open_small, enter_small, advanced_at, dials_after, turn_small, poll_no, polled_at, poll_small}
use Rattle.dial_promise.specs.Told.{SmallCall, call, poll, Told, dealt, polled, small_call, small_calls, small_history, yields_at, since, AtPolls}
use Rattle.dial_promise.proofs.Log.{yields_at_append, since_append, at_polls_append}

-- the dial of an exit at which k numbers were dealt since the last reading, and whose yields add up to s
pub record Stands (d : Dial) (k s : ℕ) : Type 0 where
  pub now : d.now ≡ (d.last + k) % round
  pub last : d.last < round
  pub sum : d.sum ≡ s % sum_round

-- what is told of exit i, and the dials after it
pub record Follows (i : ℕ) (k s : ℕ) (ds : List Dial) (told : List Told) : Type 0 where
  pub long : length ds ≡ 64
  pub yields : AtPolls (λ n y. y ≡ n % round) i k told
  pub stands : Stands (dial_at ds i) (since i k told) (s + yields_at i told)

advance_stands : (d : Dial) (k s : ℕ) → Stands d k s → Stands (advance_of d) (k + 1) s
unfolding advance_of
advance_stands d k s h = record { now = omega (arith, h.now); last = h.last; sum = h.sum }

yield_is : (d : Dial) (k s : ℕ) → Stands d k s → yield_of d ≡ k % round
unfolding yield_of
yield_is d k s h = omega (arith, h.now, h.last)

poll_stands : (d : Dial) (k s : ℕ) → Stands d k s → Stands (poll_of d).dial 0 (s + yield_of d)
unfolding poll_of
poll_stands d k s h = record { now = omega (arith, h.now); last = omega (arith, h.now); sum = omega (arith, h.sum) }

module _ (i : ℕ) (low : i < 64) (ds : List Dial) (long : length ds ≡ 64) (k s : ℕ) (h : Stands (dial_at ds i) k s) where
  follows_none : Follows i k s ds []
  unfolding AtPolls since yields_at
  follows_none = record { long = long; yields = tt; stands = rw (add-zero s) h }

  follows_deal : (e : Deal) → Follows i k s (advanced_at ds e.exit) (dealt e ∷ [])
  unfolding AtPolls since yields_at
  follows_deal e = record {
    long = length-set ds e.exit _ ∙ long;
    yields = tt;
    stands = rw (add-zero s) (elim (ℕ_discrete e.exit i) [
      | yes q ↦ rw (only_same e.exit i 1 q, q, get_or-set_same ds i (advance_of (dial_at ds i)) open_dial (omega arith)) (advance_stands (dial_at ds i) k s h)
      | no d ↦ rw (only_other e.exit i 1 d, get_or-set_other ds e.exit i (advance_of (dial_at ds e.exit)) open_dial (λ q. d (sym q)), add-zero k) h
    ]);
  }

  follows_poll : (j : ℕ) → Follows i k s (polled_at ds j) (polled j (yield_of (dial_at ds j)) ∷ [])
  unfolding AtPolls since yields_at
  follows_poll j = record {
    long = length-set ds j _ ∙ long;
    yields = (λ q. rw q (yield_is (dial_at ds i) k s h), tt);
    stands = elim (ℕ_discrete j i) [
      | yes q ↦ rw (eq-eqb j i q, only_same j i (yield_of (dial_at ds j)) q, add-zero, q, get_or-set_same ds i (poll_of (dial_at ds i)).dial open_dial (omega arith)) (poll_stands (dial_at ds i) k s h)
      | no d ↦ rw (ne_eqb j i d, only_other j i (yield_of (dial_at ds j)) d, get_or-set_other ds j i (poll_of (dial_at ds j)).dial open_dial (λ q. d (sym q)), add-zero s) h
    ];
  }

  follows_turn : (t : ℕ) (a : Values) → Follows i k s (dials_after ds a) (map dealt (deal_of t a))
  unfolding dials_after
  follows_turn t a = by a.dealt
    where
      e : Deal
      e = record { token = t; exit = a.exit; number = a.number }

      by : (b : Bool) → Follows i k s (cond b (advanced_at ds a.exit) ds) (map dealt (cond b (e ∷ []) []))
      by true = follows_deal e
      by false = follows_none

  follows_polled : (j : ℕ) (b : Bool)
      → Follows i k s (cond b (polled_at ds j) ds) (cond b (polled j (cond b (yield_of (dial_at ds j)) 0) ∷ []) [])
  follows_polled j true = follows_poll j
  follows_polled j false = follows_none

module _ (i : ℕ) (low : i < 64) where
  follows_call : (x : Cabinet) (k s : ℕ) → length x.dials ≡ 64 → Stands (dial_at x.dials i) k s → (c : SmallCall)
      → Follows i k s (small_call x c).cabinet.dials (small_call x c).told
  unfolding small_call enter_small turn_small poll_small
  follows_call x k s long h (call (enter t v)) = follows_none i low x.dials long k s h
  follows_call x k s long h (call (turn t)) = follows_turn i low x.dials long k s h t (values_of (turn_of x.run t).answer)
  follows_call x k s long h (poll j) = follows_polled i low x.dials long k s h j (eqb (poll_no x j) 0)

  follows_calls : (calls : List SmallCall) (x : Cabinet) (k s : ℕ) → length x.dials ≡ 64 → Stands (dial_at x.dials i) k s
      → Follows i k s (small_calls x calls).cabinet.dials (small_calls x calls).told
  unfolding small_calls
  follows_calls [] x k s long h = follows_none i low x.dials long k s h
  follows_calls (c ∷ rest) x k s long h =
      let y = small_call x c in
      let z = small_calls y.cabinet rest in
      let first = follows_call x k s long h c in
      let then = follows_calls rest y.cabinet (since i k y.told) (s + yields_at i y.told) first.long first.stands in
      record {
        long = then.long;
        yields = at_polls_append i (λ n y. y ≡ n % round) k y.told z.told first.yields then.yields;
        stands = rw (since_append i k y.told z.told, yields_at_append i y.told z.told, ← add_assoc) then.stands;
      }

  pub history_follows : (w c : ℕ) (calls : List SmallCall)
      → Follows i 0 0 (small_history w c calls).cabinet.dials (small_history w c calls).told
  unfolding small_history open_small
  history_follows w c calls =
      follows_calls calls (open_small w c).cabinet 0 0 (length-replicate 64 open_dial)
      (rw (get_or-replicate 64 i open_dial open_dial low) (record { now = refl; last = omega arith; sum = refl }))
