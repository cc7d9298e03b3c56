-- Laws of members in bytes: a list of members is read one after another, and what was read before stays in front. Assumes nothing.
use mathlib.Core.Path.{◌≡◌, refl, sym, ap}
use mathlib.Core.List.{List, [], ◌∷◌, ◌++◌, append_assoc}
use Prim.Native.Nat.{ℕ, zero, suc, ◌+◌, ◌-◌, ◌≤◌}
use native.Mathlib.Omega.{arith}
use lib.ListN.{length, drop}
use borrow.Author.Tests.{ne_eqb}
use Rattle.records.specs.Reading.{length_in}
use Rattle.designs.specs.Panels.{Panel}
use Rattle.designs.specs.Leaves.{Fault, Read, refused, made}
use Rattle.designs.specs.Designs.{Members, stopped, all, first, members_in}

-- members that were read before, in front
unfoldable pub after : List Panel → Members → Members
after ps (stopped x) = stopped x
after ps (all qs) = all (ps ++ qs)

pub after_none : (r : Members) → after [] r ≡ r
unfolding after
after_none (stopped x) = refl
after_none (all qs) = refl

pub after_made : (ps : List Panel) (p : Panel) (r : Members) → after ps (first (made p) r) ≡ after (ps ++ p ∷ []) r
unfolding after first
after_made ps p (stopped x) = refl
after_made ps p (all qs) = ap all (sym (append_assoc ps (p ∷ []) qs))

pub after_refused : (ps : List Panel) (x : Fault) (r : Members) → after ps (first (refused x) r) ≡ stopped x
unfolding after first
after_refused ps x r = refl

module _ (m : ℕ → List ℕ → Read) where
  pub members_none : (n at : ℕ) (s : List ℕ) → length s ≡ 0 → members_in m n at s ≡ all []
  unfolding members_in
  members_none zero at s e = refl
  members_none (suc n) at s e = rw e

  pub members_more : (n at : ℕ) (s : List ℕ) → 1 ≤ length s → length s ≤ n
      → members_in m n at s ≡ first (m at s) (members_in m (n - 1) (at + length_in s) (drop (length_in s) s))
  unfolding members_in
  members_more zero at s h g = absurd (omega arith)
  members_more (suc n) at s h g =
      let e : suc n - 1 ≡ n = omega arith in
      rw (e, ne_eqb (length s) 0 (λ z. omega arith))
