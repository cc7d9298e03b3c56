-- Each row holds every number below the width once: of each layer of each construction, at every width.
-- Assumes nothing.
use mathlib.Core.Path.{◌≡◌, refl, sym, ◌∙◌, subst}
use mathlib.Core.Bool.{Bool, true, false, cond}
use mathlib.Core.Logic.{◌⊎◌, inl, inr, ⊎_elim}
use Prim.Native.Nat.{ℕ, zero, suc, ◌+◌, ◌-◌, ◌*◌, ◌/◌, ◌%◌, ◌^◌, ◌<◌, ◌≤◌}
use native.Mathlib.Nat.{two-pow-succ}
use native.Mathlib.Omega.{arith}
use lib.Dec.{ltb, eqb}
use borrow.Author.Tests.{lt-ltb, le-ltb, eq-eqb, ne_eqb, eqb-true, eqb-false}
use Rattle.network.specs.declared.Feed.{Feed}
use Rattle.network.specs.declared.Feed.TheVariants.{Merger, Block, Beside}
use Rattle.network.specs.declared.Fed.{Fed}
use Rattle.network.specs.Wiring.{fed_of, feed_at, last_at, part, bitonic, periodic, place}
use Rattle.network.specs.Widths.{depth_b}
use Rattle.network.proofs.Feeds.{lt_or_le, fed_below, feed_below, last_below}

-- f takes the numbers below n to the numbers below n, each once: it has an inverse there
pub record Once (n : ℕ) (f : ℕ → ℕ) : Type 0 where
  pub below : (v : ℕ) → v < n → f v < n
  pub wire : ℕ → ℕ
  pub wire_below : (p : ℕ) → p < n → wire p < n
  pub there : (p : ℕ) → p < n → f (wire p) ≡ p
  pub back : (v : ℕ) → v < n → wire (f v) ≡ v

parity : (v : ℕ) → (v % 2 ≡ 0) ⊎ (v % 2 ≡ 1)
parity v = ⊎_elim (λ l. inl (omega arith)) (λ l. inr (omega arith)) (lt_or_le (v % 2) 1)

-- the wire that goes to wire i of the first or the second
abbrev unfed : Feed → ℕ → Bool → ℕ → ℕ
unfed Beside h b i = cond b (h + i) i
unfed Block h b i = 2 * i + cond b (1 - i % 2) (i % 2)
unfed Merger h b i = cond (ltb i (h / 2)) (2 * i + cond b 1 0) (2 * i + cond b 0 1)

abbrev Even : Feed → ℕ → Type 0
Even Merger h = h % 2 ≡ 0
Even Block h = Unit
Even Beside h = Unit

unfed_in : (s : Feed) (h : ℕ) → Even s h → (b : Bool) (i : ℕ) → i < h → unfed s h b i < 2 * h
unfed_in Beside h e true i l = omega arith
unfed_in Beside h e false i l = omega arith
unfed_in Block h e true i l = omega arith
unfed_in Block h e false i l = omega arith
unfed_in Merger h e true i l = ⊎_elim (λ a. rw (lt-ltb i (h / 2) a) (omega arith)) (λ a. rw (le-ltb i (h / 2) a) (omega arith)) (lt_or_le i (h / 2))
unfed_in Merger h e false i l = ⊎_elim (λ a. rw (lt-ltb i (h / 2) a) (omega arith)) (λ a. rw (le-ltb i (h / 2) a) (omega arith)) (lt_or_le i (h / 2))

feed_is : (b c : Bool) (i j : ℕ) → b ≡ c → i ≡ j → ◌≡◌ {A = Fed} (record { second = b; wire = i }) (record { second = c; wire = j })
feed_is b c i j p q = rw (p, q)

unfed_there : (s : Feed) (h : ℕ) → Even s h → (b : Bool) (i : ℕ) → i < h → fed_of s h (unfed s h b i) ≡ record { second = b; wire = i }
unfed_there Beside h e true i l = rw (le-ltb (h + i) h (omega arith)) (feed_is true true _ _ refl (omega arith))
unfed_there Beside h e false i l = rw (lt-ltb i h l)
unfed_there Block h e true i l =
    let v : ℕ = 2 * i + (1 - i % 2) in
    let d : v / 2 ≡ i = omega arith in
    rw (d, ne_eqb (v % 2) (i % 2) (λ q. omega arith))
unfed_there Block h e false i l =
    let v : ℕ = 2 * i + i % 2 in
    let d : v / 2 ≡ i = omega arith in
    rw (d, eq-eqb (v % 2) (i % 2) (omega arith))
unfed_there Merger h e true i l =
    ⊎_elim
    (λ a. let v : ℕ = 2 * i + 1 in rw (lt-ltb i (h / 2) a, lt-ltb v h (omega arith)) (feed_is _ _ _ _ (eq-eqb (v % 2) 1 (omega arith)) (omega arith)))
    (λ a. let v : ℕ = 2 * i + 0 in rw (le-ltb i (h / 2) a, le-ltb v h (omega arith)) (feed_is _ _ _ _ (eq-eqb ((v - h) % 2) 0 (omega arith)) (omega arith)))
    (lt_or_le i (h / 2))
unfed_there Merger h e false i l =
    ⊎_elim
    (λ a. let v : ℕ = 2 * i + 0 in rw (lt-ltb i (h / 2) a, lt-ltb v h (omega arith)) (feed_is _ _ _ _ (ne_eqb (v % 2) 1 (λ q. omega arith)) (omega arith)))
    (λ a. let v : ℕ = 2 * i + 1 in rw (le-ltb i (h / 2) a, le-ltb v h (omega arith)) (feed_is _ _ _ _ (ne_eqb ((v - h) % 2) 0 (λ q. omega arith)) (omega arith)))
    (lt_or_le i (h / 2))

unfed_back : (s : Feed) (h : ℕ) → Even s h → (v : ℕ) → v < 2 * h → unfed s h (fed_of s h v).second (fed_of s h v).wire ≡ v
unfed_back Beside h e v l = ⊎_elim (λ a. rw (lt-ltb v h a)) (λ a. rw (le-ltb v h a) (omega arith)) (lt_or_le v h)
unfed_back Block h e v l =
    ⊎_elim
    (λ (a : v % 2 ≡ 0). ⊎_elim (λ (b : v / 2 % 2 ≡ 0). rw (eq-eqb (v % 2) (v / 2 % 2) (omega arith)) (omega arith)) (λ (b : v / 2 % 2 ≡ 1). rw (ne_eqb (v % 2) (v / 2 % 2) (λ q. omega arith)) (omega arith)) (parity (v / 2)))
    (λ (a : v % 2 ≡ 1). ⊎_elim (λ (b : v / 2 % 2 ≡ 0). rw (ne_eqb (v % 2) (v / 2 % 2) (λ q. omega arith)) (omega arith)) (λ (b : v / 2 % 2 ≡ 1). rw (eq-eqb (v % 2) (v / 2 % 2) (omega arith)) (omega arith)) (parity (v / 2)))
    (parity v)
unfed_back Merger h e v l =
    ⊎_elim
    (λ (a : v < h). ⊎_elim
    (λ (b : v % 2 ≡ 0). rw (lt-ltb v h a, ne_eqb (v % 2) 1 (λ q. omega arith), lt-ltb (v / 2) (h / 2) (omega arith)) (omega arith))
    (λ (b : v % 2 ≡ 1). rw (lt-ltb v h a, eq-eqb (v % 2) 1 b, lt-ltb (v / 2) (h / 2) (omega arith)) (omega arith))
    (parity v))
    (λ (a : h ≤ v). ⊎_elim
    (λ (b : (v - h) % 2 ≡ 0). rw (le-ltb v h a, eq-eqb ((v - h) % 2) 0 b, le-ltb (h / 2 + (v - h) / 2) (h / 2) (omega arith)) (omega arith))
    (λ (b : (v - h) % 2 ≡ 1). rw (le-ltb v h a, ne_eqb ((v - h) % 2) 0 (λ q. omega arith), le-ltb (h / 2 + (v - h) / 2) (h / 2) (omega arith)) (omega arith))
    (parity (v - h)))
    (lt_or_le v h)

once_last : (h : ℕ) → Once (2 * h) (last_at h)
once_last h = record {
  below = last_below h;
  wire = λ p. cond (eqb (p % 2) 0) (p / 2) (h + p / 2);
  wire_below = λ p l. ⊎_elim (λ a. rw (eq-eqb (p % 2) 0 a) (omega arith)) (λ a. rw (ne_eqb (p % 2) 0 (λ q. omega arith)) (omega arith)) (parity p);
  there = λ p l. ⊎_elim
      (λ (a : p % 2 ≡ 0). rw (eq-eqb (p % 2) 0 a, lt-ltb (p / 2) h (omega arith)) (omega arith))
      (λ (a : p % 2 ≡ 1). rw (ne_eqb (p % 2) 0 (λ q. omega arith), le-ltb (h + p / 2) h (omega arith)) (omega arith))
      (parity p);
  back = λ v l. ⊎_elim
      (λ (a : v < h). rw (lt-ltb v h a, eq-eqb (2 * v % 2) 0 (omega arith)) (omega arith))
      (λ (a : h ≤ v). rw (le-ltb v h a, ne_eqb ((2 * (v - h) + 1) % 2) 0 (λ q. omega arith)) (omega arith))
      (lt_or_le v h);
}

module _ (s : Feed) (h : ℕ) (f : ℕ → ℕ) (e : Even s h) (o : Once h f) where
  abbrev from : ℕ → ℕ
  from p = cond (ltb p h) (unfed s h false (o.wire p)) (unfed s h true (o.wire (p - h)))

  from_fed : (b : Bool) (i : ℕ) → i < h → from (cond b (h + f i) (f i)) ≡ unfed s h b i
  from_fed true i l =
      let d : h + f i - h ≡ f i = omega arith in
      rw (le-ltb (h + f i) h (omega arith), d, o.back i l)
  from_fed false i l = rw (lt-ltb (f i) h (o.below i l), o.back i l)

  once_feed : Once (2 * h) (feed_at s h f)
  unfolding feed_at
  once_feed = record {
    below = feed_below s h f o.below;
    wire = from;
    wire_below = λ p l. ⊎_elim
        (λ (a : p < h). rw (lt-ltb p h a) (unfed_in s h e false (o.wire p) (o.wire_below p a)))
        (λ (a : h ≤ p). rw (le-ltb p h a) (unfed_in s h e true (o.wire (p - h)) (o.wire_below (p - h) (omega arith))))
        (lt_or_le p h);
    there = λ p l. ⊎_elim
        (λ (a : p < h). rw (lt-ltb p h a, unfed_there s h e false (o.wire p) (o.wire_below p a)) (o.there p a))
        (λ (a : h ≤ p).
        let m : p - h < h = omega arith in
        rw (le-ltb p h a, unfed_there s h e true (o.wire (p - h)) (o.wire_below (p - h) m), o.there (p - h) m) (omega arith))
        (lt_or_le p h);
    back = λ v l. from_fed (fed_of s h v).second (fed_of s h v).wire (fed_below s h v l) ∙ unfed_back s h e v l;
  }

once_pick : (t : Bool) (n : ℕ) (f g : ℕ → ℕ) → (t ≡ true → Once n f) → (t ≡ false → Once n g) → Once n (λ v. cond t (f v) (g v))
once_pick true n f g a b = a refl
once_pick false n f g a b = b refl

even_pow : (s : Feed) (j : ℕ) → (j ≡ 0 → ⊥) → Even s (2 ^ j)
even_pow s zero n = absurd (n refl)
even_pow Merger (suc i) n = omega (arith, two-pow-succ i)
even_pow Block (suc i) n = tt
even_pow Beside (suc i) n = tt

even_at : (t : Bool) (s : Feed) (j : ℕ) → (t ≡ true → j ≡ 0 → ⊥) → Even (cond t s Beside) (2 ^ j)
even_at true s j n = even_pow s j (n refl)
even_at false s j n = tt

twice : (j : ℕ) (f : ℕ → ℕ) → Once (2 * 2 ^ j) f → Once (2 ^ suc j) f
twice j f o = let e : 2 * 2 ^ j ≡ 2 ^ suc j = omega (arith, two-pow-succ j) in subst (λ (n : ℕ). Once n f) e o

pub once_part : (s : Feed) (k L : ℕ) → Once (2 ^ k) (part s k L)
unfolding part
once_part s zero L = record { below = λ v l. l; wire = λ p. p; wire_below = λ p l. l; there = λ p l. refl; back = λ v l. refl }
once_part s (suc j) L =
    twice j (part s (suc j) L)
    (once_pick (eqb L j) (2 * 2 ^ j) (last_at (2 ^ j)) (feed_at (cond (eqb L 0) s Beside) (2 ^ j) (part s j L))
    (λ e. once_last (2 ^ j))
    (λ e. once_feed (cond (eqb L 0) s Beside) (2 ^ j) (part s j L) (even_at (eqb L 0) s j (λ z q. eqb-false L j e (eqb-true L 0 z ∙ sym q))) (once_part s j L)))

pub once_bitonic : (k L : ℕ) → Once (2 ^ k) (bitonic k L)
unfolding bitonic
once_bitonic zero L = record { below = λ v l. l; wire = λ p. p; wire_below = λ p l. l; there = λ p l. refl; back = λ v l. refl }
once_bitonic (suc j) L =
    once_pick (ltb L (depth_b j)) (2 ^ suc j) (feed_at Beside (2 ^ j) (bitonic j L)) (part Merger (suc j) (L - depth_b j))
    (λ e. twice j (feed_at Beside (2 ^ j) (bitonic j L)) (once_feed Beside (2 ^ j) (bitonic j L) tt (once_bitonic j L)))
    (λ e. once_part Merger (suc j) (L - depth_b j))

-- each row holds every number below the width once
pub once : (c k L : ℕ) → Once (2 ^ k) (place c k L)
unfolding place periodic
once c k L = once_pick (eqb c 1) (2 ^ k) (bitonic k L) (part Block k (L % k)) (λ e. once_bitonic k L) (λ e. once_part Block k (L % k))

-- a block takes its wires in rising order
pub block_rising : (h : ℕ) (b : Bool) (i j : ℕ) → i < j → unfed Block h b i < unfed Block h b j
block_rising h true i j l = omega arith
block_rising h false i j l = omega arith
