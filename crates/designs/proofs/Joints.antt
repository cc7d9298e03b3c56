-- Laws of members: what holds of both joints, and one member more at the end of a list. Assumes nothing.
use mathlib.Core.Path.{◌≡◌, refl, sym, ap, ◌∙◌}
use mathlib.Core.Bool.{Bool, true, ◌&&◌, and-true, and_assoc}
use mathlib.Core.List.{List, [], ◌∷◌, ◌++◌}
use lib.Dec.{eqb}
use borrow.Author.Tests.{eqb-true}
use Rattle.records.proofs.RoundTrips.{both}
use Rattle.designs.specs.Panels.{Panel}
use Rattle.designs.specs.Members.{Joint, series, beside, joined_to, equal_to, joined, all_equal}
use Rattle.designs.proofs.Rows.{Rowed, rowed_series, rowed_side, once_in_order}

pub record Lawful (j : Joint) : Type 0 where
  pub same : (p q : Panel) → j.equal (j.join p q) ≡ j.equal p
  pub rowed : (p q : Panel) → j.equal q ≡ j.equal p → Rowed p → Rowed q → Rowed (j.join p q)

pub lawful_series : Lawful series
lawful_series = record { same = λ p q. refl; rowed = rowed_series }

pub lawful_beside : Lawful beside
lawful_beside = record { same = λ p q. refl; rowed = rowed_side }

-- what holds of every member
pub data Every (P : Panel → Type 0) : List Panel → Type 0 where
  none : Every P []
  more : {p : Panel} {ps : List Panel} → P p → Every P ps → Every P (p ∷ ps)

pub every_last : {P : Panel → Type 0} {ps : List Panel} {q : Panel} → Every P ps → P q → Every P (ps ++ q ∷ [])
every_last none y = more y none
every_last (more x xs) y = more x (every_last xs y)

module _ (j : Joint) where
  -- ---- one member more
  joined_to_last : (p q : Panel) (ps : List Panel) → joined_to j p (ps ++ q ∷ []) ≡ j.join (joined_to j p ps) q
  unfolding joined_to
  joined_to_last p q [] = refl
  joined_to_last p q (r ∷ ps) = joined_to_last (j.join p r) q ps

  equal_to_last : (p q : Panel) (ps : List Panel) → equal_to j p (ps ++ q ∷ []) ≡ equal_to j p ps && eqb (j.equal q) (j.equal p)
  unfolding equal_to
  equal_to_last p q [] = and-true (eqb (j.equal q) (j.equal p))
  equal_to_last p q (r ∷ ps) =
      let e = eqb (j.equal r) (j.equal p) in
      ap (λ (b : Bool). e && b) (equal_to_last p q ps) ∙ sym (and_assoc e (equal_to j p ps) (eqb (j.equal q) (j.equal p)))

  module _ (law : Lawful j) where
    joined_to_equal : (p : Panel) (ps : List Panel) → j.equal (joined_to j p ps) ≡ j.equal p
    unfolding joined_to
    joined_to_equal p [] = refl
    joined_to_equal p (q ∷ ps) = joined_to_equal (j.join p q) ps ∙ law.same p q

    equal_to_same : (p q : Panel) (ps : List Panel) → j.equal p ≡ j.equal q → equal_to j p ps ≡ equal_to j q ps
    unfolding equal_to
    equal_to_same p q [] e = refl
    equal_to_same p q (r ∷ ps) e = rw (e, equal_to_same p q ps e)

    rowed_joined_to : (p : Panel) (ps : List Panel) → equal_to j p ps ≡ true → Rowed p → Every Rowed ps → Rowed (joined_to j p ps)
    unfolding joined_to equal_to
    rowed_joined_to p [] e x none = x
    rowed_joined_to p (q ∷ ps) e x (more y ys) =
        let a = both (eqb (j.equal q) (j.equal p)) (equal_to j p ps) e in
        rowed_joined_to (j.join p q) ps (equal_to_same (j.join p q) p ps (law.same p q) ∙ a.1) (law.rowed p q (eqb-true _ _ a.0) x y) ys

    pub all_equal_last : (p q : Panel) (ps : List Panel) → all_equal j (p ∷ ps ++ q ∷ []) ≡ all_equal j (p ∷ ps) && eqb (j.equal q) (j.equal (joined j (p ∷ ps)))
    unfolding all_equal joined
    all_equal_last p q ps = rw (joined_to_equal p ps) (equal_to_last p q ps)

    pub rowed_joined : (ps : List Panel) → all_equal j ps ≡ true → Every Rowed ps → Rowed (joined j ps)
    unfolding all_equal joined
    rowed_joined [] e none = record { once = λ L l. once_in_order 0; even = λ h. refl }
    rowed_joined (p ∷ ps) e (more x xs) = rowed_joined_to p ps e x xs

  pub joined_last : (p q : Panel) (ps : List Panel) → joined j (p ∷ ps ++ q ∷ []) ≡ j.join (joined j (p ∷ ps)) q
  unfolding joined
  joined_last p q ps = joined_to_last p q ps

  -- ---- and of the first
  pub joined_first : (q : Panel) → joined j (q ∷ []) ≡ q
  unfolding joined joined_to
  joined_first q = refl

  pub all_equal_first : (q : Panel) → all_equal j (q ∷ []) ≡ true
  unfolding all_equal equal_to
  all_equal_first q = refl
