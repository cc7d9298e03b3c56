-- Laws of the highest number dealt. In order: one exit; one exit more; what is answered; it is the largest. Assumes nothing.
use Rattle.std.proofs.Common.{◌≡◌, max, Ok, Option, Some, None, ℕ, zero, suc, ◌+◌, ◌-◌, ◌*◌, ◌<◌, ◌≤◌, true, false, List, get_or, sym, refl, ◌∙◌, true≢false, mul-le-mul, add-one, arith, eq-eqb, ne_eqb}
use mathlib.Core.Bool.{false≢true}
use native.Mathlib.Decide.{ℕ_discrete, dec_le}
use Rattle.std.specs.Option.{SomeIff}
use Rattle.network.specs.Widths.{width_ok}
use Rattle.moves.specs.Turn.{number_at}
use Rattle.dials.specs.Dials.{sum_round}
use Rattle.dials.specs.Highest.{Number, Nothing, Refused, top_by, past_at, past_below, highest_of, values_of, HighestIs}

-- ---- one exit
pub before_small : (w s : ℕ) → w ≤ 64 → s < sum_round → w * (s - 1) ≤ 64 * 4294967294
before_small w s h k =
    let most : s - 1 ≤ 4294967294 = omega arith in
    mul-le-mul h most

pub past_none : (w i s : ℕ) → s ≡ 0 → past_at w i s ≡ 0
unfolding past_at
past_none w i s z = rw (eq-eqb s 0 z)

pub past_some : (w i s : ℕ) → (s ≡ 0 → ⊥) → past_at w i s ≡ i + w * (s - 1) + 1
unfolding past_at
past_some w i s n = rw (ne_eqb s 0 n)

-- ---- one exit more
pub past_more : (w : ℕ) (sums : List ℕ) (i past here r : ℕ) → past ≡ past_below w sums i → here ≡ past_at w i (get_or sums i 0)
    → r ≡ max past here → r ≡ past_below w sums (i + 1)
unfolding past_below
past_more w sums i past here r p q e = rw (add-one i, e, p, q)

-- ---- what is answered
module _ (w : ℕ) (sums : List ℕ) where
  pub highest_refused : width_ok w ≡ false → Refused 1 ≡ highest_of w sums
  unfolding highest_of
  highest_refused h = rw h

  module _ (h : width_ok w ≡ true) (n : ℕ) (e : n ≡ past_below w sums w) where
    pub highest_nothing : n ≡ 0 → Nothing ≡ highest_of w sums
    unfolding highest_of
    highest_nothing z = rw (h, ← e, eq-eqb n 0 z)

    pub highest_number : (n ≡ 0 → ⊥) → Number (n - 1) ≡ highest_of w sums
    unfolding highest_of
    highest_number z = rw (h, ← e, ne_eqb n 0 z)

    -- one less, where that is a number, else none
    pub highest_told : (r : Option ℕ) → SomeIff r (1 ≤ n) (n - 1) → top_by (Ok r) ≡ highest_of w sums
    highest_told None l = highest_nothing (omega arith)
    highest_told (Some m) l = rw l.1 (highest_number (λ z. omega (arith, l.0)))

-- ---- it is the largest
module _ (w : ℕ) (sums : List ℕ) where
  abbrev at : ℕ → ℕ
  at i = past_at w i (get_or sums i 0)

  past_most : (n i : ℕ) → i < n → at i ≤ past_below w sums n
  unfolding past_below
  past_most zero i l = absurd (omega arith)
  past_most (suc n) i l = elim (ℕ_discrete i n) [
    | yes e ↦ rw e (omega arith)
    | no d ↦ omega (arith, past_most n i (omega arith))
  ]

  -- where it is above 0, it is that of some exit
  past_one : (n : ℕ) → 0 < past_below w sums n → (i : ℕ) × ((i < n) × (at i ≡ past_below w sums n))
  unfolding past_below
  past_one zero l = absurd (omega arith)
  past_one (suc n) l = elim (dec_le (past_below w sums n) (at n)) [
    | yes h ↦ (n, (omega arith, omega arith))
    | no h ↦
        let left : max (past_below w sums n) (at n) ≡ past_below w sums n = omega arith in
        let i = past_one n (omega arith) in
        (i.0, (omega (arith, i.1.0), i.1.1 ∙ sym left))
  ]

  at_some : (i : ℕ) → 0 < get_or sums i 0 → at i ≡ number_at w i (get_or sums i 0 - 1) + 1
  at_some i l = past_some w i (get_or sums i 0) (λ z. omega arith)

  at_above : (i : ℕ) → 0 < at i → 0 < get_or sums i 0
  at_above i l = elim (ℕ_discrete (get_or sums i 0) 0) [
    | yes z ↦ absurd (omega (arith, past_none w i (get_or sums i 0) z))
    | no d ↦ omega arith
  ]

  is_nothing : past_below w sums w ≡ 0 → HighestIs w sums (values_of Nothing)
  unfolding values_of
  is_nothing z = record {
    carried_out = refl;
    none = λ n i l. elim (ℕ_discrete (get_or sums i 0) 0) [
      | yes e ↦ e
      | no d ↦ absurd (omega (arith, past_most w i l, at_some i (omega arith)))
    ];
    most = λ i l s. absurd (omega (arith, past_most w i l, at_some i s));
    one = λ s. absurd (false≢true s);
  }

  is_number_lem : 0 < past_below w sums w → HighestIs w sums (values_of (Number (past_below w sums w - 1)))
  unfolding values_of
  is_number_lem above = record {
    carried_out = refl;
    none = λ s. absurd (true≢false s);
    most = λ i l s. (refl, omega (arith, past_most w i l, at_some i s));
    one = λ s.
        let i = past_one w above in
        let some = at_above i.0 (omega (arith, i.1.1)) in
        (i.0, (i.1.0, (some, omega (arith, i.1.1, at_some i.0 some))));
  }

  pub highest_is : width_ok w ≡ true → HighestIs w sums (values_of (highest_of w sums))
  highest_is h = elim (ℕ_discrete (past_below w sums w) 0) [
    | yes z ↦ rw (← highest_nothing w sums h (past_below w sums w) refl z) (is_nothing z)
    | no d ↦ rw (← highest_number w sums h (past_below w sums w) refl d) (is_number_lem (omega arith))
  ]
