-- Laws of `permutation`: it says that each place is below the length and that no two are alike; and then every number below the
-- length is the place of one wire. Assumes nothing.
use mathlib.Core.Path.{◌≡◌, refl, sym, ap, ◌∙◌}
use mathlib.Core.Bool.{Bool, true, false, not, cond, ◌&&◌}
use mathlib.Core.List.{List, [], ◌∷◌}
use mathlib.Core.Logic.{⊎_elim}
use Prim.Native.Nat.{ℕ, zero, suc, ◌<◌, ◌≤◌}
use native.Mathlib.Omega.{arith}
use lib.Dec.{ltb, eqb}
use lib.ListN.{length, get_or}
use borrow.Author.Tests.{ltb-true, lt-ltb, eqb-true, eqb-false, ne_eqb, not-true}
use Rattle.std.proofs.lemmas.Bool.{cases_lt}
use Rattle.network.proofs.Once.{Once}
use Rattle.network.specs.Rows.{tabulate}
use Rattle.network.proofs.Arrays.{length_tabulate, get_d_tabulate}
use Rattle.board.proofs.Lists.{and_left, and_right}
use Rattle.feed_sheet.specs.Limits.{among, distinct, permutation}

-- each is below n, and no two are alike
pub record Distinct (n : ℕ) (s : List ℕ) : Type 0 where
  pub below : (v : ℕ) → v < length s → get_or s v 0 < n
  pub apart : (u v : ℕ) → u < length s → v < length s → get_or s u 0 ≡ get_or s v 0 → u ≡ v

-- ---- by the head of a list
among_next : (x y : ℕ) (s : List ℕ) (b : Bool) → eqb y x ≡ b → cond b true (among x s) ≡ false → (y ≡ x → ⊥) × (among x s ≡ false)
among_next x y s true q e = let never : ◌≡◌ {A = ℕ} 0 1 = cc in absurd (omega arith)
among_next x y s false q e = (eqb-false y x q, e)

not_among : (x : ℕ) (s : List ℕ) → among x s ≡ false → (v : ℕ) → v < length s → get_or s v 0 ≡ x → ⊥
unfolding among
not_among x [] e v l q = omega arith
not_among x (y ∷ s) e zero l q = (among_next x y s (eqb y x) refl e).0 q
not_among x (y ∷ s) e (suc v) l q = not_among x s (among_next x y s (eqb y x) refl e).1 v (omega arith) q

among_none : (x : ℕ) (s : List ℕ) → ((v : ℕ) → v < length s → get_or s v 0 ≡ x → ⊥) → among x s ≡ false
unfolding among
among_none x [] f = refl
among_none x (y ∷ s) f = rw (ne_eqb y x (f 0 (omega arith))) (among_none x s (λ v l. f (suc v) (omega arith)))

module _ (n x : ℕ) (s : List ℕ) (d : Distinct n s) where
  below_head : x < n → (v : ℕ) → v < length (x ∷ s) → get_or (x ∷ s) v 0 < n
  below_head a zero l = a
  below_head a (suc v) l = d.below v (omega arith)

  apart_head : ((v : ℕ) → v < length s → get_or s v 0 ≡ x → ⊥) → (u v : ℕ) → u < length (x ∷ s) → v < length (x ∷ s) → get_or (x ∷ s) u 0 ≡ get_or (x ∷ s) v 0 → u ≡ v
  apart_head f zero zero l m q = refl
  apart_head f zero (suc v) l m q = absurd (f v (omega arith) (sym q))
  apart_head f (suc u) zero l m q = absurd (f u (omega arith) q)
  apart_head f (suc u) (suc v) l m q = ap suc (d.apart u v (omega arith) (omega arith) q)

pub distinct→ : (n : ℕ) (s : List ℕ) → distinct n s ≡ true → Distinct n s
unfolding distinct
distinct→ n [] e = record { below = λ v l. absurd (omega arith); apart = λ u v l m q. absurd (omega arith) }
distinct→ n (x ∷ s) e =
    let once = not (among x s) in
    let rest = and_right (ltb x n) (once && distinct n s) e in
    let d = distinct→ n s (and_right once (distinct n s) rest) in
    record {
      below = below_head n x s d (ltb-true x n (and_left (ltb x n) (once && distinct n s) e));
      apart = apart_head n x s d (not_among x s (not-true (among x s) (and_left once (distinct n s) rest)));
    }

pub →distinct : (n : ℕ) (s : List ℕ) → Distinct n s → distinct n s ≡ true
unfolding distinct
→distinct n [] d = refl
→distinct n (x ∷ s) d =
    rw (
      lt-ltb x n (d.below 0 (omega arith)),
      among_none x s (λ v l q. let same = d.apart (suc v) 0 (omega arith) (omega arith) q in omega arith),
    )
    (→distinct n s (record {
      below = λ v l. d.below (suc v) (omega arith);
      apart = λ u v l m q. let same = d.apart (suc u) (suc v) (omega arith) (omega arith) q in omega arith;
    }))

-- ---- a map of the numbers below n to themselves that takes no two to one
record Into (n : ℕ) (f : ℕ → ℕ) : Type 0 where
  below : (v : ℕ) → v < n → f v < n
  apart : (u v : ℕ) → u < n → v < n → f u ≡ f v → u ≡ v

-- the number m left out: what goes to m goes where m goes
without : (ℕ → ℕ) → ℕ → ℕ → ℕ
without f m v = cond (eqb (f v) m) (f m) (f v)

module _ (m : ℕ) (f : ℕ → ℕ) (o : Into (suc m) f) where
  below_at : (v : ℕ) → v < m → (b : Bool) → eqb (f v) m ≡ b → cond b (f m) (f v) < m
  below_at v l true q =
      let to-m = eqb-true (f v) m q in
      let top = o.below m (omega arith) in
      ⊎_elim (λ (a : f m < m). a)
      (λ (a : m ≤ f m). absurd (let same = o.apart v m (omega arith) (omega arith) (omega arith) in omega arith))
      (cases_lt (f m) m)
  below_at v l false q = let other = eqb-false (f v) m q in let low = o.below v (omega arith) in omega arith

  apart_at : (u v : ℕ) → u < m → v < m → (a b : Bool) → eqb (f u) m ≡ a → eqb (f v) m ≡ b → cond a (f m) (f u) ≡ cond b (f m) (f v) → u ≡ v
  apart_at u v k l true true p q e = o.apart u v (omega arith) (omega arith) (eqb-true (f u) m p ∙ sym (eqb-true (f v) m q))
  apart_at u v k l true false p q e = absurd (let same = o.apart m v (omega arith) (omega arith) e in omega arith)
  apart_at u v k l false true p q e = absurd (let same = o.apart u m (omega arith) (omega arith) e in omega arith)
  apart_at u v k l false false p q e = o.apart u v (omega arith) (omega arith) e

  into_less : Into m (without f m)
  unfolding without
  into_less = record {
    below = λ v l. below_at v l (eqb (f v) m) refl;
    apart = λ u v k l. apart_at u v k l (eqb (f u) m) (eqb (f v) m) refl refl;
  }

-- each number below n is the place of one
record Hit (n : ℕ) (f : ℕ → ℕ) (p : ℕ) : Type 0 where
  wire : ℕ
  low : wire < n
  there : f wire ≡ p

module _ (m : ℕ) (f : ℕ → ℕ) (o : Into (suc m) f) (p : ℕ) (l : p < suc m) where
  -- where p is m itself, what goes to m is what goes to f m without it
  hit_top : p ≡ m → (f m ≡ p → ⊥) → (w : ℕ) → w < m → (b : Bool) → eqb (f w) m ≡ b → cond b (f m) (f w) ≡ f m → f w ≡ p
  hit_top e n w k true q h = eqb-true (f w) m q ∙ sym e
  hit_top e n w k false q h = absurd (let same = o.apart w m (omega arith) (omega arith) h in omega arith)

  hit_low : (f m ≡ p → ⊥) → (w : ℕ) → (b : Bool) → eqb (f w) m ≡ b → cond b (f m) (f w) ≡ p → f w ≡ p
  hit_low n w true q h = absurd (n h)
  hit_low n w false q h = h

  hit_below : ((q : ℕ) → q < m → Hit m (without f m) q) → (b c : Bool) → eqb (f m) p ≡ b → eqb p m ≡ c → Hit (suc m) f p
  unfolding without
  hit_below ih true c q r = record { wire = m; low = omega arith; there = eqb-true (f m) p q }
  hit_below ih false true q r =
      let is_m = eqb-true p m r in
      let other = eqb-false (f m) p q in
      let h = ih (f m) (let top = o.below m (omega arith) in omega arith) in
      record { wire = h.wire; low = omega (arith, h.low); there = hit_top is_m other h.wire h.low (eqb (f h.wire) m) refl h.there }
  hit_below ih false false q r =
      let apart = eqb-false p m r in
      let h = ih p (omega arith) in
      record { wire = h.wire; low = omega (arith, h.low); there = hit_low (eqb-false (f m) p q) h.wire (eqb (f h.wire) m) refl h.there }

hit : (n : ℕ) (f : ℕ → ℕ) → Into n f → (p : ℕ) → p < n → Hit n f p
hit zero f o p l = absurd (omega arith)
hit (suc m) f o p l = hit_below m f o p l (hit m (without f m) (into_less m f o)) (eqb (f m) p) (eqb p m) refl refl

-- ---- the last wire below n that goes to p
found : (ℕ → ℕ) → ℕ → ℕ → ℕ
found f zero p = 0
found f (suc n) p = cond (eqb (f n) p) n (found f n p)

found_at : (f : ℕ → ℕ) (n p v x : ℕ) (b : Bool) → eqb (f n) p ≡ b → v < suc n → f v ≡ p → (v < n → (x < n) × (f x ≡ p)) → (cond b n x < suc n) × (f (cond b n x) ≡ p)
found_at f n p v x true q l e g = (omega arith, eqb-true (f n) p q)
found_at f n p v x false q l e g =
    let other : v ≡ n → ⊥ = λ z. eqb-false (f n) p q (ap f (sym z) ∙ e) in
    let ih = g (omega arith) in
    (omega arith, ih.1)

found_is : (f : ℕ → ℕ) (n p v : ℕ) → v < n → f v ≡ p → (found f n p < n) × (f (found f n p) ≡ p)
unfolding found
found_is f zero p v l e = absurd (omega arith)
found_is f (suc n) p v l e = found_at f n p v (found f n p) (eqb (f n) p) refl l e (λ m. found_is f n p v m e)

into→once : (n : ℕ) (f : ℕ → ℕ) → Into n f → Once n f
into→once n f o =
    let is : (p : ℕ) → p < n → (found f n p < n) × (f (found f n p) ≡ p)
    = λ p l. let h = hit n f o p l in found_is f n p h.wire h.low h.there in
    record {
      below = o.below;
      wire = found f n;
      wire_below = λ p l. (is p l).0;
      there = λ p l. (is p l).1;
      back = λ v l. let at = is (f v) (o.below v l) in o.apart (found f n (f v)) v at.0 l at.1;
    }

-- the places of a permutation: each number below the length once
pub permutation_once : (s : List ℕ) → distinct (length s) s ≡ true → Once (length s) (λ v. get_or s v 0)
permutation_once s e =
    let d = distinct→ (length s) s e in
    into→once (length s) (λ v. get_or s v 0) (record { below = d.below; apart = d.apart })

-- and the other way: a row that holds every number once is a permutation
pub once_permutation : (n : ℕ) (f : ℕ → ℕ) → Once n f → permutation (tabulate f n) ≡ true
once_permutation n f o =
    let long = length_tabulate f n in
    let is : (v : ℕ) → v < n → get_or (tabulate f n) v 0 ≡ f v = get_d_tabulate f n in
    rw long
    (→distinct n (tabulate f n) (record {
      below = λ v l. rw (is v (omega arith)) (o.below v (omega arith));
      apart = λ u v k l e.
          let a : u < n = omega arith in
          let b : v < n = omega arith in
          sym (o.back u a) ∙ ap o.wire (sym (is u a) ∙ e ∙ is v b) ∙ o.back v b;
    }))
