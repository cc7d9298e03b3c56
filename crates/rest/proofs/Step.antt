-- The step property of counts, at any width. In order: its forms (000, Lemma 2.2), subsequences (3.1), even and odd places
-- (3.2), equal and nearly equal sums (3.3, 3.4), two counts through one layer of cells (4.2, and the end of 3.5 and of 4.3).
-- Assumes nothing.
use Prim.Native.Nat.{ℕ, suc, ◌+◌, ◌-◌, ◌*◌, ◌/◌, ◌%◌, ◌≤◌, ◌<◌}
use mathlib.Core.Path.{◌≡◌, ap, sym, ◌∙◌, fun_ext}
use mathlib.Core.Logic.{◌≢◌}
use native.Mathlib.Nat.{mul-le-mul_right, div-add-mod', mod-lt, add_comm, div-div-eq-div-mul}
use native.Mathlib.Decide.{ℕ_discrete, dec_le, dec_lt}
use native.Mathlib.Omega.{arith}
use Rattle.rest.specs.Sum.{sum}
use Rattle.rest.specs.Flow.{outlet}
use Rattle.rest.specs.Share.{share}
use Rattle.rest.specs.Rest.{Step}
use Rattle.rest.proofs.Sum.{sum_ext, sum_append, sum_least, sum_most}
use Rattle.rest.proofs.Share.{eq_by_lt, share_lt, lt_share, share_other, share_own, sum_share}

abbrev pub evens : (ℕ → ℕ) → ℕ → ℕ
evens x = λ i. x (2 * i)

abbrev pub odds : (ℕ → ℕ) → ℕ → ℕ
odds x = λ i. x (2 * i + 1)

-- ---- Lemma 2.2: three forms. (1) is `Step`; (2) is `Drop`, where 000's "all equal" is the case that the place is 0; (3) says
-- that each has its share of the sum. 000 goes from 3 to 1, 2 and back, we from 1 to 3, 2 and back.
-- (2): one more before some place than from there on
pub record Drop (w : ℕ) (x : ℕ → ℕ) : Type 0 where
  pub height : ℕ
  pub at : ℕ
  pub before : (i : ℕ) → i < w → i < at → x i ≡ height + 1
  pub after : (i : ℕ) → i < w → at ≤ i → x i ≡ height

module _ (w : ℕ) (pos : 0 < w) (x : ℕ → ℕ) where
  -- (1) gives (3)
  pub step→share : Step w x → (i : ℕ) → i < w → x i ≡ share (sum w x) i w
  step→share step i l = eq_by_lt (x i) (share (sum w x) i w)
      (λ q h. lt_share w pos (sum w x) i q (above q h))
      (λ q h. elim (dec_lt q (x i)) [ yes a ↦ a | no a ↦ omega (arith, share_lt w pos (sum w x) i q h, most q (omega arith)) ])
    where
      above : (q : ℕ) → q < x i → q * w + i < sum w x
      above q h =
          let r : ℕ = w - suc i in
          let e : w ≡ suc i + r = omega arith in
          let up_to : (j : ℕ) → j < suc i → suc q ≤ x j = λ j m. elim (dec_lt j i) [
            | yes a ↦ omega (arith, step j i a l)
            | no a ↦ let same : j ≡ i = omega arith in rw same h
          ] in
          let past : (j : ℕ) → j < r → q ≤ x (suc i + j) = λ j m. omega (arith, step i (suc i + j) (omega arith) (omega arith)) in
          let low : suc i * suc q ≤ sum (suc i) x = sum_least (suc i) (suc q) x up_to in
          let high : r * q ≤ sum r (λ j. x (suc i + j)) = sum_least r q (λ j. x (suc i + j)) past in
          omega (arith, sum_append (suc i) r x, ap (λ n. sum n x) e, ap (λ n. q * n) e)

      most : (q : ℕ) → x i ≤ q → sum w x ≤ q * w + i
      most q h =
          let r : ℕ = w - i in
          let e : w ≡ i + r = omega arith in
          let from : (j : ℕ) → j < r → x (i + j) ≤ q = λ j m. elim (ℕ_discrete j 0) [
            | yes e ↦ let same : i + j ≡ i = omega arith in rw same h
            | no n ↦ omega (arith, step i (i + j) (omega arith) (omega arith))
          ] in
          let low : sum i x ≤ i * suc q = sum_most i (suc q) x (λ j m. omega (arith, step j i m l)) in
          let high : sum r (λ j. x (i + j)) ≤ r * q = sum_most r q (λ j. x (i + j)) from in
          omega (arith, sum_append i r x, ap (λ n. sum n x) e, ap (λ n. q * n) e)

  -- (3) gives (2), with the place m mod w, of any number m that is shared out
  pub share→drop : (m : ℕ) → ((i : ℕ) → i < w → x i ≡ share m i w) → Drop w x
  share→drop m h = record {
    height = m / w;
    at = m % w;
    before = λ i l a. h i l ∙ eq_by_lt (share m i w) (m / w + 1)
        (λ q b. elim (dec_le q (m / w)) [ yes c ↦ omega arith | no c ↦ omega (arith, share_lt w pos m i q b, times (suc (m / w)) q (omega arith), whole, mod-lt m pos) ])
        (λ q b. lt_share w pos m i q (omega (arith, times q (m / w) (omega arith), whole)));
    after = λ i l a. h i l ∙ eq_by_lt (share m i w) (m / w)
        (λ q b. elim (dec_lt q (m / w)) [ yes c ↦ c | no c ↦ omega (arith, share_lt w pos m i q b, times (m / w) q (omega arith), whole) ])
        (λ q b. lt_share w pos m i q (omega (arith, times (suc q) (m / w) b, whole)));
  }
    where
      whole : m / w * w + m % w ≡ m
      whole = div-add-mod' m w

      times : (p q : ℕ) → p ≤ q → p * w ≤ q * w
      times p q a = mul-le-mul_right w a

  -- (2) gives (1)
  pub drop→step : Drop w x → Step w x
  drop→step d i j l m = elim (dec_lt i d.at) [
    | yes a ↦ elim (dec_lt j d.at) [
      | yes b ↦ omega (arith, d.before i (omega arith) a, d.before j m b)
      | no b ↦ omega (arith, d.before i (omega arith) a, d.after j m (omega arith))
    ]
    | no a ↦ omega (arith, d.after i (omega arith) (omega arith), d.after j m (omega arith))
  ]

pub step_ext : (w : ℕ) (x y : ℕ → ℕ) → ((i : ℕ) → i < w → y i ≡ x i) → Step w x → Step w y
step_ext w x y h step i j l m = omega (arith, h i (omega arith), h j m, step i j l m)

-- ---- Lemma 3.1: a subsequence, of the places f 0 < f 1 < .. < f (n - 1)
step_sub : (w n : ℕ) (x f : ℕ → ℕ) → ((i j : ℕ) → i < j → f i < f j) → ((i : ℕ) → i < n → f i < w) → Step w x → Step n (λ i. x (f i))
step_sub w n x f rises within step i j l m = step (f i) (f j) (rises i j l) (within j m)

module _ (w n : ℕ) (twice : w ≡ 2 * n) (x : ℕ → ℕ) (step : Step w x) where
  pub step_evens : Step n (evens x)
  step_evens = step_sub w n x (λ i. 2 * i) (λ i j l. omega arith) (λ i l. omega arith) step

  pub step_odds : Step n (odds x)
  step_odds = step_sub w n x (λ i. 2 * i + 1) (λ i j l. omega arith) (λ i l. omega arith) step

  -- ---- Lemma 3.2: the even places have half the sum rounded up, the odd ones half of it rounded down
  module _ (pos : 0 < n) where
    -- the share of place 2i + s of w in m is that of place i of n in m/2, rounded as outlet s of a cell rounds it
    half_share : (m s i : ℕ) → s < 2 → share m (2 * i + s) (2 * n) ≡ share (outlet s m) i n
    unfolding share
    half_share m s i l = sym (div-div-eq-div-mul (m - (2 * i + s) + (2 * n - 1)) 2 n) ∙ ap (λ t. t / n) (omega arith)

    half_sum : (s : ℕ) → s < 2 → sum n (λ i. x (2 * i + s)) ≡ outlet s (sum w x)
    half_sum s l =
        sum_ext n (λ i. x (2 * i + s)) (λ i. share (outlet s (sum w x)) i n)
        (λ i m. step→share w (omega arith) x step (2 * i + s) (omega arith) ∙ ap (share (sum w x) (2 * i + s)) twice ∙ half_share (sum w x) s i l)
        ∙ sum_share n pos (outlet s (sum w x))

    pub evens_sum : sum n (evens x) ≡ (sum w x + 1) / 2
    evens_sum = ap (sum n) (fun_ext (λ i. ap x (omega arith))) ∙ half_sum 0 (omega arith) ∙ omega arith

    pub odds_sum : sum n (odds x) ≡ sum w x / 2
    odds_sum = half_sum 1 (omega arith) ∙ omega arith

module _ (w : ℕ) (pos : 0 < w) (x y : ℕ → ℕ) (step-x : Step w x) (step-y : Step w y) where
  -- ---- Lemma 3.3: equal sums, equal counts
  pub step_equal : sum w x ≡ sum w y → (i : ℕ) → i < w → x i ≡ y i
  step_equal h i l = step→share w pos x step-x i l ∙ ap (λ m. share m i w) h ∙ sym (step→share w pos y step-y i l)

  -- ---- Lemma 3.4: of a sum that is one more, one count is one more, that of the next share's place; the others are equal
  pub step_more : sum w x ≡ sum w y + 1 → x (sum w y % w) ≡ y (sum w y % w) + 1
  step_more h =
      step→share w pos x step-x (sum w y % w) (mod-lt (sum w y) pos) ∙ ap (λ m. share m (sum w y % w) w) (h ∙ omega arith)
      ∙ share_own w pos (sum w y) ∙ omega (arith, step→share w pos y step-y (sum w y % w) (mod-lt (sum w y) pos))

  pub step_same : sum w x ≡ sum w y + 1 → (i : ℕ) → i < w → i ≢ sum w y % w → x i ≡ y i
  step_same h i l n =
      step→share w pos x step-x i l ∙ ap (λ m. share m i w) (h ∙ omega arith)
      ∙ share_other w pos (sum w y) i l n ∙ sym (step→share w pos y step-y i l)

-- ---- a layer of cells, of which cell i takes x i and y i
abbrev pub join : (ℕ → ℕ) → (ℕ → ℕ) → ℕ → ℕ
join x y = λ i. outlet (i % 2) (x (i / 2) + y (i / 2))

-- Lemma 4.2: both sides' outlets keep the step property
pub step_outlet : (s w : ℕ) (x y : ℕ → ℕ) → s < 2 → Step w x → Step w y → Step w (λ i. outlet s (x i + y i))
step_outlet s w x y small step-x step-y i j l m = omega (arith, step-x i j l m, step-y i j l m)

-- The end of Lemmas 3.5 and 4.3: where the two sums differ by at most one, the outlets together have the step property.
module _ (w : ℕ) (pos : 0 < w) (x y : ℕ → ℕ) (step-x : Step w x) (step-y : Step w y) where
  join_equal : sum w x ≡ sum w y → Step (2 * w) (join x y)
  join_equal h i j l m =
      let same : (c : ℕ) → c < w → x c ≡ y c = step_equal w pos x y step-x step-y h in
      elim (ℕ_discrete (i / 2) (j / 2)) [
        | yes e ↦ omega (arith, ap x e, ap y e)
        | no n ↦ omega (arith, step-x (i / 2) (j / 2) (omega arith) (omega arith), same (i / 2) (omega arith), same (j / 2) (omega arith))
      ]

  -- two cells c < d, at either outlet
  cells_more : sum w x ≡ sum w y + 1 → (c d s t : ℕ) → c < d → d < w → s < 2 → t < 2
      → (outlet t (x d + y d) ≤ outlet s (x c + y c)) × (outlet s (x c + y c) ≤ outlet t (x d + y d) + 1)
  cells_more h c d s t l m small-s small-t =
      let at_c : (x d ≤ x c) × (x c ≤ x d + 1) = step-x c d l m in
      let at-d : (y d ≤ y c) × (y c ≤ y d + 1) = step-y c d l m in
      let more : x (sum w y % w) ≡ y (sum w y % w) + 1 = step_more w pos x y step-x step-y h in
      elim (ℕ_discrete c (sum w y % w)) [
        | yes e ↦ omega (arith, ap x e, ap y e, step_same w pos x y step-x step-y h d m (omega arith))
        | no n ↦ elim (ℕ_discrete d (sum w y % w)) [
          | yes e ↦ omega (arith, ap x e, ap y e, step_same w pos x y step-x step-y h c (omega arith) n)
          | no k ↦ omega (arith, step_same w pos x y step-x step-y h c (omega arith) n, step_same w pos x y step-x step-y h d m k)
        ]
      ]

  join_more : sum w x ≡ sum w y + 1 → Step (2 * w) (join x y)
  join_more h i j l m = elim (ℕ_discrete (i / 2) (j / 2)) [
    | yes e ↦ omega (arith, ap x e, ap y e)
    | no n ↦ cells_more h (i / 2) (j / 2) (i % 2) (j % 2) (omega arith) (omega arith) (omega arith) (omega arith)
  ]

pub join_step : (w : ℕ) → 0 < w → (x y : ℕ → ℕ) → Step w x → Step w y → sum w x ≤ sum w y + 1 → sum w y ≤ sum w x + 1 → Step (2 * w) (join x y)
join_step w pos x y step-x step-y h l = elim (ℕ_discrete (sum w x) (sum w y)) [
  | yes e ↦ join_equal w pos x y step-x step-y e
  | no n ↦ elim (dec_lt (sum w y) (sum w x)) [
    | yes a ↦ join_more w pos x y step-x step-y (omega arith)
    | no a ↦ step_ext (2 * w) (join y x) (join x y) (λ i m. ap (outlet (i % 2)) (add_comm (x (i / 2)) (y (i / 2)))) (join_more w pos y x step-y step-x (omega arith))
  ]
]
