-- The records of a design, and why the head of one is refused (02, P3). Definitions only. Assumes nothing.
use Rattle.std.specs.Prelude.{ℕ, ◌+◌, ◌-◌, Bool, not, cond, ◌&&◌, List, [], ◌∷◌, ltb, leb, eqb, length, get_or, take, drop}
use Rattle.order.specs.Order.{Rule, ◌⟶◌, number_of, first_of}
use Rattle.order.specs.declared.Refusal.{Refusal}
use Rattle.records.specs.Reading.{length_in, kind_in}
use Rattle.designs.specs.declared.Kind.{Kind}
use Rattle.designs.specs.declared.Kind.TheVariants.{Series, Beside, Leaf}
use Rattle.designs.specs.declared.Leaf.TheVariants.{Cell, Named, Cross}

-- a rule as a condition and its refusal
abbrev pub rule_of : Bool × Refusal → Rule
rule_of r = r.0 ⟶ number_of r.1

-- the number of each kind
abbrev pub leaf_number : Rattle.designs.specs.declared.Leaf.Leaf → ℕ
leaf_number Cell = 18
leaf_number Named = 19
leaf_number Cross = 20

abbrev pub kind_number : Kind → ℕ
kind_number Series = 16
kind_number Beside = 17
kind_number (Leaf l) = leaf_number l

-- 16 series, 17 beside, 18 one cell, 19 a named network, 20 cross
abbrev pub known_kind : ℕ → Bool
known_kind k = leb 16 k && leb k 20

-- is n the length of a record of kind k? A cell has 4 bytes, a named network the fields of kind 1, a cross 5 and as many as its
-- width byte b says, a series or a beside any number from 4 on
unfoldable pub length_fits : ℕ → ℕ → ℕ → Bool
length_fits k n b = cond (eqb k 18) (eqb n 4) (cond (eqb k 19) (eqb n 8) (cond (eqb k 20) (eqb n (5 + b)) (leb 4 n)))

-- the bytes behind the head of the record at the front of s
unfoldable pub behind : List ℕ → List ℕ
behind s = take (length_in s - 4) (drop 4 s)

-- The record at the front of s, which ends where s does or before: 11 a cut head (no bytes count too); 13; 12; 23 a cut body,
-- in which a cross's width byte past the end counts; 12 for bytes after the outermost record; 18 where no nesting is left; 19.
unfoldable pub head_no : ℕ → Bool → List ℕ → ℕ
head_no left outermost s =
    first_of
    ((ltb (length s) 4 ⟶ 11)
    ∷ (not (known_kind (kind_in s)) ⟶ 13)
    ∷ ((eqb (kind_in s) 20 && ltb (length_in s) 5) ⟶ 12)
    ∷ ((eqb (kind_in s) 20 && ltb (length s) 5) ⟶ 23)
    ∷ (not (length_fits (kind_in s) (length_in s) (get_or s 4 0)) ⟶ 12)
    ∷ ((outermost && ltb (length_in s) (length s)) ⟶ 12)
    ∷ (ltb (length s) (length_in s) ⟶ 23)
    ∷ (eqb left 0 ⟶ 18)
    ∷ ((leb (kind_in s) 17 && eqb (length_in s) 4) ⟶ 19)
    ∷ [])
