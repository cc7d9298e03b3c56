-- The numbers dealt, by the exits' counts: of an exit i with count c they are i, i + w, .. i + w · (c - 1), once each. So v is dealt
-- where exit v mod w has a count above v div w, and the numbers undealt below n are what the exits are short of their shares of n.
-- In order: lists of deals; the rule and how it is kept; what is missing. Assumes nothing.
use Prim.Native.Nat.{ℕ, zero, suc, ◌+◌, ◌-◌, ◌*◌, ◌/◌, ◌%◌, ◌≤◌, ◌<◌}
use mathlib.Core.Path.{◌≡◌, ap, sym, ◌∙◌}
use mathlib.Core.Bool.{cond}
use mathlib.Core.List.{List, [], ◌∷◌, ◌++◌}
use mathlib.Core.Logic.{◌≢◌}
use native.Mathlib.Nat.{zero-add, div-add-mod', mod-lt, mod-eq_of_lt, div-eq_of_lt, add-mul-div_left, add-mul-mod_self_left}
use native.Mathlib.Decide.{ℕ_discrete, dec_lt}
use native.Mathlib.Omega.{arith}
use lib.Dec.{ltb}
use borrow.Author.Tests.{lt-ltb, le-ltb}
use Rattle.rest.specs.Sum.{only, sum}
use Rattle.rest.specs.Share.{share}
use Rattle.rest.proofs.Sum.{only_same, only_other, sum_change, sum_zero}
use Rattle.rest.proofs.Share.{share_zero, share_other, share_own, below_share, share_below}
use Rattle.board.specs.Sound.{sum_of}
use Rattle.promise.specs.History.{Deal, entered_on, times, dealt_to, dealt_at}
use Rattle.promise.specs.Further.{undealt}

-- ---- lists of deals and of entries
sum_of_append : {A : Type 0} (f : A → ℕ) (l m : List A) → sum_of f (l ++ m) ≡ sum_of f l + sum_of f m
unfolding sum_of
sum_of_append f [] m = sym (zero-add (sum_of f m))
sum_of_append f (a ∷ l) m = omega (arith, sum_of_append f l m)

pub times_append : (v : ℕ) (l m : List Deal) → times v (l ++ m) ≡ times v l + times v m
unfolding times
times_append v l m = sum_of_append (λ e. only e.number v 1) l m

pub times_one : (v : ℕ) (e : Deal) → times v (e ∷ []) ≡ only e.number v 1
unfolding times sum_of
times_one v e = omega arith

pub dealt_to_append : (t : ℕ) (l m : List Deal) → dealt_to t (l ++ m) ≡ dealt_to t l + dealt_to t m
unfolding dealt_to
dealt_to_append t l m = sum_of_append (λ e. only e.token t 1) l m

pub dealt_to_one : (t : ℕ) (e : Deal) → dealt_to t (e ∷ []) ≡ only e.token t 1
unfolding dealt_to sum_of
dealt_to_one t e = omega arith

pub dealt_at_append : (i : ℕ) (l m : List Deal) → dealt_at i (l ++ m) ≡ dealt_at i l + dealt_at i m
unfolding dealt_at
dealt_at_append i l m = sum_of_append (λ e. only e.exit i 1) l m

pub dealt_at_one : (i : ℕ) (e : Deal) → dealt_at i (e ∷ []) ≡ only e.exit i 1
unfolding dealt_at sum_of
dealt_at_one i e = omega arith

pub entered_on_append : (v : ℕ) (l m : List ℕ) → entered_on v (l ++ m) ≡ entered_on v l + entered_on v m
unfolding entered_on
entered_on_append v l m = sum_of_append (λ u. only u v 1) l m

pub entered_on_one : (v u : ℕ) → entered_on v (u ∷ []) ≡ only u v 1
unfolding entered_on sum_of
entered_on_one v u = omega arith

-- ---- 1 where q is below c, else 0
unfoldable pub below : ℕ → ℕ → ℕ
below q c = cond (ltb q c) 1 0

module _ (q c : ℕ) where
  pub below_yes : q < c → below q c ≡ 1
  unfolding below
  below_yes h = rw (lt-ltb q c h)

  pub below_no : c ≤ q → below q c ≡ 0
  unfolding below
  below_no h = rw (le-ltb q c h)

below_more : (q c : ℕ) → below q (c + 1) ≡ below q c + only c q 1
below_more q c = elim (ℕ_discrete c q) [
  | yes e ↦ omega (arith, only_same c q 1 e, below_yes q (c + 1) (omega arith), below_no q c (omega arith))
  | no n ↦ elim (dec_lt q c) [
    | yes l ↦ omega (arith, only_other c q 1 n, below_yes q (c + 1) (omega arith), below_yes q c l)
    | no l ↦ omega (arith, only_other c q 1 n, below_no q (c + 1) (omega arith), below_no q c (omega arith))
  ]
]

-- ---- the rule
abbrev pub Book : ℕ → (ℕ → ℕ) → List Deal → Type 0
Book w count deals = (v : ℕ) → times v deals ≡ below (v / w) (count (v % w))

module _ (w : ℕ) (pos : 0 < w) where
  pub book_none : (count : ℕ → ℕ) → ((i : ℕ) → i < w → count i ≡ 0) → Book w count []
  unfolding times sum_of
  book_none count z v = sym (below_no (v / w) (count (v % w)) (omega (arith, z (v % w) (mod-lt v pos))))

  pub book_same : (a b : ℕ → ℕ) (deals : List Deal) → ((i : ℕ) → i < w → b i ≡ a i) → Book w a deals → Book w b deals
  book_same a b deals h k v = rw (h (v % w) (mod-lt v pos)) (k v)

  pub number_div : (i c : ℕ) → i < w → (i + w * c) / w ≡ c
  number_div i c l = add-mul-div_left i c pos ∙ ap (λ z. z + c) (div-eq_of_lt l) ∙ zero-add c

  pub number_mod : (i c : ℕ) → i < w → (i + w * c) % w ≡ i
  number_mod i c l = add-mul-mod_self_left i w c ∙ mod-eq_of_lt l

  -- the count of exit i goes up: one number more, i + w · c
  raised : (a b : ℕ → ℕ) (i : ℕ) → i < w → b i ≡ a i + 1 → ((j : ℕ) → j < w → j ≢ i → b j ≡ a j)
      → (v : ℕ) → below (v / w) (b (v % w)) ≡ below (v / w) (a (v % w)) + only (i + w * a i) v 1
  raised a b i l e h v = elim (ℕ_discrete (v % w) i) [
    | yes p ↦ rw (p, e, below_more (v / w) (a i)) (ap (λ z. below (v / w) (a i) + z) (elim (ℕ_discrete (a i) (v / w)) [
      | yes q ↦ only_same (a i) (v / w) 1 q ∙ sym (only_same (i + w * a i) v 1 (omega (arith, ap (λ z. w * z) q, div-add-mod' v w)))
      | no q ↦ only_other (a i) (v / w) 1 q ∙ sym (only_other (i + w * a i) v 1 (λ r. q (sym (number_div i (a i) l) ∙ ap (λ z. z / w) r)))
    ]))
    | no n ↦ rw (h (v % w) (mod-lt v pos) n, only_other (i + w * a i) v 1 (λ r. n (ap (λ z. z % w) (sym r) ∙ number_mod i (a i) l)))
        (omega arith)
  ]

  pub book_deal : (a b : ℕ → ℕ) (deals : List Deal) (e : Deal) → e.exit < w → e.number ≡ e.exit + w * a e.exit
      → b e.exit ≡ a e.exit + 1 → ((j : ℕ) → j < w → j ≢ e.exit → b j ≡ a j) → Book w a deals → Book w b (deals ++ (e ∷ []))
  book_deal a b deals e l n up h k v =
      rw (times_append v deals (e ∷ []), times_one v e, n)
      (omega (arith, k v, raised a b e.exit l up h v))

  -- ---- what is undealt below n
  module _ (count : ℕ → ℕ) (deals : List Deal) (k : Book w count deals) where
    -- the next number is dealt where its exit is not short of it
    next_short : (n : ℕ) → share (suc n) (n % w) w - count (n % w) ≡ share n (n % w) w - count (n % w) + (1 - times n deals)
    next_short n = elim (dec_lt (n / w) (share n (n % w) w)) [
      | yes above ↦ absurd (omega (arith, below_share w pos n n above))
      | no own ↦
          let reaches : n / w < share (suc n) (n % w) w = share_below w pos (suc n) n (omega arith) in
          elim (dec_lt (n / w) (count (n % w))) [
            | yes l ↦ omega (arith, share_own w pos n, k n, below_yes (n / w) (count (n % w)) l)
            | no l ↦ omega (arith, share_own w pos n, k n, below_no (n / w) (count (n % w)) (omega arith))
          ]
    ]

    pub undealt_short : (n : ℕ) → undealt n deals ≡ sum w (λ i. share n i w - count i)
    unfolding undealt sum
    undealt_short zero = sym (sum_zero w (λ i. share 0 i w - count i) (λ i l. omega (arith, share_zero w pos i)))
    undealt_short (suc n) =
        omega (
          arith,
          undealt_short n,
          next_short n,
          sum_change w (λ i. share n i w - count i) (λ i. share (suc n) i w - count i) (n % w) (mod-lt n pos)
              (λ i l d. ap (λ z. z - count i) (share_other w pos n i l d)),
        )
