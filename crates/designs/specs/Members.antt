-- The members of a series and of a beside (02, P3). Definitions only. Assumes nothing.
use Rattle.std.specs.Prelude.{ℕ, Bool, true, ◌&&◌, List, [], ◌∷◌, eqb}
use Rattle.designs.specs.Panels.{Panel, in_series, side_by_side}

-- how two members are joined, and the size in which all must be equal
pub record Joint : Type 0 where
  pub join : Panel → Panel → Panel
  pub equal : Panel → ℕ

-- one after another: equal width
abbrev pub series : Joint
series = record { join = in_series; equal = λ p. p.width }

-- side by side: equal depth
abbrev pub beside : Joint
beside = record { join = side_by_side; equal = λ p. p.depth }

-- p and further members, joined from the left
unfoldable pub joined_to : Joint → Panel → List Panel → Panel
joined_to j p [] = p
joined_to j p (q ∷ qs) = joined_to j (j.join p q) qs

unfoldable pub equal_to : Joint → Panel → List Panel → Bool
equal_to j p [] = true
equal_to j p (q ∷ qs) = eqb (j.equal q) (j.equal p) && equal_to j p qs

-- all members; a list without any, which 19 refuses, would have no wires
unfoldable pub joined : Joint → List Panel → Panel
joined j [] = record { width = 0; depth = 0; place = λ L v. v }
joined j (p ∷ ps) = joined_to j p ps

unfoldable pub all_equal : Joint → List Panel → Bool
all_equal j [] = true
all_equal j (p ∷ ps) = equal_to j p ps
