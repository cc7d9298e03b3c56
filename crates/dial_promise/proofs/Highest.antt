-- The highest of the sums is the highest number dealt, where the sums are the exits' counts. Assumes nothing.
use Prim.Native.Nat.{ℕ, ◌-◌, ◌*◌, ◌/◌, ◌%◌, ◌≤◌, ◌<◌}
use mathlib.Core.Path.{◌≡◌, refl, ap, sym, ◌∙◌}
use mathlib.Core.Bool.{Bool, true, false, true≢false}
use mathlib.Core.List.{List, [], ◌∷◌}
use native.Mathlib.Nat.{mod-lt, div-add-mod', mul-le-mul_left}
use native.Mathlib.Decide.{dec_lt}
use native.Mathlib.Omega.{arith}
use lib.ListN.{get_or}
use Rattle.rest.proofs.Sum.{only_same}
use Rattle.board.specs.Sound.{sum_of}
use Rattle.moves.specs.Turn.{number_at}
use Rattle.promise.specs.History.{Deal, times}
use Rattle.promise.proofs.Book.{Book, below_yes, below_no, number_div, number_mod}
use Rattle.dials.specs.Highest.{Values, HighestIs}
use Rattle.dial_promise.specs.Promise.{HighestDealt}

never_dealt : (v : ℕ) → times v [] ≡ 0
unfolding times sum_of
never_dealt v = refl

head_dealt : (e : Deal) (rest : List Deal) → 0 < times e.number (e ∷ rest)
unfolding times sum_of
head_dealt e rest = omega (arith, only_same e.number e.number 1 refl)

module _ (w : ℕ) (pos : 0 < w) (sums : List ℕ) (count : ℕ → ℕ) (same : (i : ℕ) → i < w → get_or sums i 0 ≡ count i)
    (deals : List Deal) (book : Book w count deals) (a : Values) (is : HighestIs w sums a) where
  last_dealt : (i : ℕ) → i < w → 0 < count i → 0 < times (number_at w i (count i - 1)) deals
  last_dealt i l some =
      let fact = book (number_at w i (count i - 1)) in
      let kept : times (number_at w i (count i - 1)) deals ≡ _ = rw (number_div w pos i (count i - 1) l, number_mod w pos i (count i - 1) l) at fact in
      omega (arith, below_yes (count i - 1) (count i) (omega arith))

  number_dealt : a.some ≡ true → 0 < times a.number deals
  number_dealt s =
      let i = is.one s in
      let l = i.1.0 in
      let some : 0 < count i.0 = omega (arith, i.1.1.0, same i.0 l) in
      let number : a.number ≡ number_at w i.0 (count i.0 - 1) = i.1.1.1 ∙ ap (λ n. number_at w i.0 (n - 1)) (same i.0 l) in
      rw number (last_dealt i.0 l some)

  -- a number that was dealt is at most the last of its exit
  most_dealt : (v : ℕ) → 0 < times v deals → (a.some ≡ true) × (v ≤ a.number)
  most_dealt v d = elim (dec_lt (v / w) (count (v % w))) [
    | yes l ↦
        let i = v % w in
        let m : i < w = mod-lt v pos in
        let top = is.most i m (omega (arith, same i m)) in
        let last : number_at w i (count i - 1) ≤ a.number = rw (same i m) at top.1 in
        let up : w * (v / w) ≤ w * (count i - 1) = mul-le-mul_left w (omega arith) in
        (top.0, omega (arith, div-add-mod' v w))
    | no l ↦ absurd (omega (arith, book v, below_no (v / w) (count (v % w)) (omega arith)))
  ]

  none_dealt : (l : List Deal) → ((v : ℕ) → 0 < times v l → (a.some ≡ true) × (v ≤ a.number)) → a.some ≡ false → l ≡ []
  none_dealt [] f s = refl
  none_dealt (e ∷ rest) f s = absurd (true≢false (sym (f e.number (head_dealt e rest)).0 ∙ s))

  dealt_none : deals ≡ [] → (b : Bool) → a.some ≡ b → b ≡ false
  dealt_none z true s = absurd (omega (arith, number_dealt s, ap (times a.number) z, never_dealt a.number))
  dealt_none z false s = refl

  pub highest_dealt : HighestDealt deals a
  highest_dealt = record {
    carried_out = is.carried_out;
    dealt = number_dealt;
    highest = most_dealt;
    none = none_dealt deals most_dealt;
    nothing = λ z. dealt_none z a.some refl;
  }
