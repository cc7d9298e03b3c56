-- Rows that hold every number once, put together: in order, one after another, side by side. Assumes nothing.
use mathlib.Core.Path.{◌≡◌, refl, ap, ◌∙◌, subst}
use mathlib.Core.Bool.{Bool, true, false, cond}
use mathlib.Core.Logic.{⊎_elim}
use Prim.Native.Nat.{ℕ, ◌+◌, ◌-◌, ◌%◌, ◌<◌, ◌≤◌}
use native.Mathlib.Omega.{arith}
use lib.Dec.{ltb, eqb}
use borrow.Author.Tests.{lt-ltb, le-ltb, ltb-true, eqb-true}
use Rattle.network.proofs.Feeds.{lt_or_le}
use Rattle.network.proofs.Once.{Once}
use Rattle.designs.specs.Panels.{Panel, in_series, side_by_side}

pub once_in_order : (n : ℕ) → Once n (λ v. v)
once_in_order n = record { below = λ v l. l; wire = λ p. p; wire_below = λ p l. l; there = λ p l. refl; back = λ v l. refl }

once_then : {n : ℕ} {f g : ℕ → ℕ} → Once n f → Once n g → Once n (λ v. g (f v))
once_then {n} {f} {g} x y = record {
  below = λ v l. y.below (f v) (x.below v l);
  wire = λ p. x.wire (y.wire p);
  wire_below = λ p l. x.wire_below (y.wire p) (y.wire_below p l);
  there = λ p l. ap g (x.there (y.wire p) (y.wire_below p l)) ∙ y.there p l;
  back = λ v l. ap x.wire (y.back (f v) (x.below v l)) ∙ x.back v l;
}

abbrev side : ℕ → (ℕ → ℕ) → (ℕ → ℕ) → ℕ → ℕ
side a f g v = cond (ltb v a) (f v) (a + g (v - a))

once_side : {a b : ℕ} {f g : ℕ → ℕ} → Once a f → Once b g → Once (a + b) (side a f g)
once_side {a} {b} {f} {g} x y = record {
  below = λ v l. ⊎_elim
      (λ (m : v < a). rw (lt-ltb v a m) (omega (arith, x.below v m)))
      (λ (m : a ≤ v). rw (le-ltb v a m) (omega (arith, y.below (v - a) (omega arith))))
      (lt_or_le v a);
  wire = side a x.wire y.wire;
  wire_below = λ p l. ⊎_elim
      (λ (m : p < a). rw (lt-ltb p a m) (omega (arith, x.wire_below p m)))
      (λ (m : a ≤ p). rw (le-ltb p a m) (omega (arith, y.wire_below (p - a) (omega arith))))
      (lt_or_le p a);
  there = λ p l. ⊎_elim
      (λ (m : p < a). rw (lt-ltb p a m, lt-ltb (x.wire p) a (x.wire_below p m)) (x.there p m))
      (λ (m : a ≤ p).
      let h : p - a < b = omega arith in
      let e : a + y.wire (p - a) - a ≡ y.wire (p - a) = omega arith in
      rw (le-ltb p a m, le-ltb (a + y.wire (p - a)) a (omega arith), e, y.there (p - a) h) (omega arith))
      (lt_or_le p a);
  back = λ v l. ⊎_elim
      (λ (m : v < a). rw (lt-ltb v a m, lt-ltb (f v) a (x.below v m)) (x.back v m))
      (λ (m : a ≤ v).
      let h : v - a < b = omega arith in
      let e : a + g (v - a) - a ≡ g (v - a) = omega arith in
      rw (le-ltb v a m, le-ltb (a + g (v - a)) a (omega arith), e, y.back (v - a) h) (omega arith))
      (lt_or_le v a);
}

-- ---- panels: each row up to the exits holds every number below the width once, and the width is even where there are cells
pub record Rowed (p : Panel) : Type 0 where
  pub once : (L : ℕ) → L ≤ p.depth → Once p.width (p.place L)
  pub even : 1 ≤ p.depth → p.width % 2 ≡ 0

series_at : (a b : Bool) (n : ℕ) (f g : ℕ → ℕ) → (a ≡ true → Once n f) → (b ≡ true → Once n f) → (a ≡ false → Once n g) → Once n (λ v. cond a (f v) (g (cond b (f v) v)))
series_at true b n f g x y z = x refl
series_at false true n f g x y z = once_then (y refl) (z refl)
series_at false false n f g x y z = z refl

pub rowed_series : (p q : Panel) → q.width ≡ p.width → Rowed p → Rowed q → Rowed (in_series p q)
rowed_series p q e x y = record {
  once = λ L l.
      series_at (ltb L p.depth) (eqb L p.depth) p.width (p.place L) (q.place (L - p.depth))
      (λ b. x.once L (omega (arith, ltb-true L p.depth b)))
      (λ b. x.once L (omega (arith, eqb-true L p.depth b)))
      (λ b. subst (λ (n : ℕ). Once n (q.place (L - p.depth))) e (y.once (L - p.depth) (omega arith)));
  even = λ h. ⊎_elim (λ (m : 0 < p.depth). x.even (omega arith)) (λ (m : p.depth ≤ 0). omega (arith, y.even (omega arith), e)) (lt_or_le 0 p.depth);
}

pub rowed_side : (p q : Panel) → q.depth ≡ p.depth → Rowed p → Rowed q → Rowed (side_by_side p q)
rowed_side p q e x y = record {
  once = λ L l. once_side (x.once L l) (y.once L (omega arith));
  even = λ h. omega (arith, x.even h, y.even (omega arith));
}
