-- Laws of the grid: a new one, a row that is put in, from a column on, and what stays. Assumes nothing.
use mathlib.Core.Path.{◌≡◌, refl, ap, ◌∙◌}
use mathlib.Core.List.{List, []}
use Prim.Native.Nat.{ℕ, zero, suc, ◌+◌, ◌%◌, ◌<◌, ◌≤◌}
use native.Mathlib.Decide.{ℕ_discrete}
use native.Mathlib.Omega.{arith}
use lib.ListN.{length, get_or, set, replicate}
use lib.Seq.{get_or-set_same, get_or-set_other}
use Rattle.std.proofs.Common.{Some}
use Rattle.leaves.specs.declared.grid.Grid.{Grid}
use Rattle.leaves.specs.Grid.{byte_at, Kept, InRow, Put, Linked}

-- ---- rows of one number, read with it as the default
row_alike : (w j d : ℕ) → get_or (replicate w d) j d ≡ d
row_alike zero j d = refl
row_alike (suc w) zero d = refl
row_alike (suc w) (suc j) d = row_alike w j d

pub all_alike : (n w i j d : ℕ) → get_or (get_or (replicate n (replicate w d)) i []) j d ≡ d
all_alike zero w i j d = refl
all_alike (suc n) w zero j d = row_alike w j d
all_alike (suc n) w (suc i) j d = all_alike n w i j d

-- ---- a grid with another row, the same before a column
abbrev with_row : Grid → ℕ → List ℕ → Grid
with_row g row new = record { rows = set g.rows row new }

module _ (row col : ℕ) (g : Grid) (new : List ℕ) (whole : length g.rows ≡ 37) (low : row ≤ 36) (front : (j : ℕ) → j < col → get_or new j 0 ≡ byte_at g row j) where
  row_is : (j : ℕ) → byte_at (with_row g row new) row j ≡ get_or new j 0
  row_is j = ap (λ (l : List ℕ). get_or l j 0) (get_or-set_same g.rows row new [] (omega arith))

  others : (i j : ℕ) → (i ≡ row → ⊥) → byte_at (with_row g row new) i j ≡ byte_at g i j
  others i j n = ap (λ (l : List ℕ). get_or l j 0) (get_or-set_other g.rows row i new [] (λ e. n (omega arith)))

  row_alone : InRow row col g (with_row g row new)
  row_alone = record {
    others = others;
    beside = λ i j l. elim (ℕ_discrete i row) [
      | yes e ↦ rw e (row_is j ∙ front j l)
      | no n ↦ others i j n
    ];
  }

  pub row_put : {places : List ℕ} → ((v : ℕ) → v < length places → get_or new (col + v) 0 ≡ col + get_or places v 0) → Put row col places g (with_row g row new)
  row_put there = record { row_alone = row_alone; there = λ r k v l. row_is (col + v) ∙ there v l }

  pub row_linked : {out : List ℕ} {width : ℕ} → ((v : ℕ) → v < width → get_or new (col + v) 0 ≡ byte_at g row (get_or out (col + v) 0 % 64)) → Linked (Some out) row col width g (with_row g row new)
  row_linked {out} there = record {
    row_alone = row_alone;
    none = λ e. absurd (let never : ◌≡◌ {A = ℕ} 0 1 = cc in omega arith);
    there = λ o e r k v l. let same : out ≡ o = cc in rw same at (row_is (col + v) ∙ there v l);
  }

-- ---- what stays
pub kept_row : {row col : ℕ} {before after : Grid} → InRow row col before after → Kept row col before after
kept_row o = record { above = λ i j l. o.others i j (λ e. omega arith); beside = o.beside }

pub kept_same : (row col : ℕ) (g : Grid) → Kept row col g g
kept_same row col g = record { above = λ i j l. refl; beside = λ i j l. refl }

-- a part further down and to the right
pub kept_then : {row col row' col' : ℕ} {f g h : Grid} → Kept row col f g → Kept row' col' g h → row ≤ row' → col ≤ col' → Kept row col f h
kept_then x y r c = record {
  above = λ i j l. y.above i j (omega arith) ∙ x.above i j l;
  beside = λ i j l. y.beside i j (omega arith) ∙ x.beside i j l;
}
