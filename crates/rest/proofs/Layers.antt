-- Crate `network`'s rows at rest. In order: a cell takes the two wires that feed it; a layer in front of two networks of half
-- the width; their layers side by side.
-- Assumes nothing.
use Prim.Native.Nat.{ℕ, zero, suc, ◌+◌, ◌-◌, ◌*◌, ◌/◌, ◌%◌, ◌≤◌, ◌<◌}
use mathlib.Core.Path.{◌≡◌, refl, ap, ap₂, sym, ◌∙◌}
use mathlib.Core.Bool.{Bool, true, false, cond}
use mathlib.Core.Logic.{⊎_elim}
use native.Mathlib.Decide.{ℕ_discrete}
use native.Mathlib.Omega.{arith}
use borrow.Author.Tests.{lt-ltb, le-ltb}
use Rattle.network.specs.declared.Feed.{Feed}
use Rattle.network.specs.declared.Feed.TheVariants.{Beside}
use Rattle.network.specs.declared.Fed.{Fed}
use Rattle.network.specs.Wiring.{fed_of, feed_at}
use Rattle.network.proofs.Feeds.{lt_or_le, fed_below}
use Rattle.network.proofs.Once.{Once}
use Rattle.rest.specs.Sum.{only}
use Rattle.rest.specs.Flow.{outlet, csum, layer, flow}
use Rattle.rest.proofs.Sum.{only_same, only_other, sum_ext, sum_add, sum_only}

-- the counts at level L of w wires, by the rows of the sheet
abbrev pub level_of : ℕ → (ℕ → ℕ → ℕ) → (ℕ → ℕ) → ℕ → ℕ → ℕ
level_of w rows x L = flow w (λ L v. rows L v / 2) x L

-- ---- a cell
-- cell c of a row that holds every place once takes the wires that feed its inlets, u and v
module _ (w : ℕ) (r : ℕ → ℕ) (o : Once w r) where
  feeds_one : (u v : ℕ) → u < w → v < w → r u ≡ r v → u ≡ v
  feeds_one u v l m e = sym (o.back u l) ∙ ap o.wire e ∙ o.back v m

  pub csum_once : (x : ℕ → ℕ) (c u v : ℕ) → u < w → v < w → r u ≡ 2 * c → r v ≡ 2 * c + 1 → csum w (λ z. r z / 2) x c ≡ x u + x v
  unfolding csum
  csum_once x c u v in-u in-v at-u at-v =
      sum_ext w (λ z. only (r z / 2) c (x z)) (λ z. only u z (x u) + only v z (x v)) inlets
      ∙ sum_add w (λ z. only u z (x u)) (λ z. only v z (x v))
      ∙ ap₂ ◌+◌ (sum_only w u (x u) in-u) (sum_only w v (x v) in-v)
    where
      inlets : (z : ℕ) → z < w → only (r z / 2) c (x z) ≡ only u z (x u) + only v z (x v)
      inlets z l = elim (ℕ_discrete u z) [
        | yes e ↦ omega (
          arith,
          ap x e,
          only_same (r z / 2) c (x z) (omega (arith, ap r e)),
          only_same u z (x u) e,
          only_other v z (x v) (λ q. omega (arith, ap r e, ap r q)),
        )
        | no n ↦ elim (ℕ_discrete v z) [
          | yes e ↦ omega (arith, ap x e, only_same (r z / 2) c (x z) (omega (arith, ap r e)), only_other u z (x u) n, only_same v z (x v) e)
          | no k ↦ omega (
            arith,
            only_other u z (x u) n,
            only_other v z (x v) k,
            only_other (r z / 2) c (x z) (λ q. elim (ℕ_discrete (r z) (2 * c)) [
              | yes e ↦ n (feeds_one u z in-u l (at-u ∙ sym e))
              | no a ↦ k (feeds_one v z in-v l (omega arith))
            ]),
          )
        ]
      ]

-- ---- a layer in front of two networks of width h, or of a layer of them
-- wire i of the first of two, or of the second where t holds
abbrev pub seat : Bool → ℕ → ℕ → ℕ
seat t h i = cond t (h + i) i

-- x is a on the lower half of the 2h wires and b on the upper
abbrev pub Both : ℕ → (ℕ → ℕ) → (ℕ → ℕ) → (ℕ → ℕ) → Type 0
Both h x a b = (t : Bool) (i : ℕ) → i < h → x (seat t h i) ≡ cond t b a i

-- of the counts x on the 2h wires the first network takes a and the second b
abbrev pub Takes : Feed → ℕ → (ℕ → ℕ) → (ℕ → ℕ) → (ℕ → ℕ) → Type 0
Takes s h x a b = (v : ℕ) → v < 2 * h → x v ≡ cond (fed_of s h v).second b a (fed_of s h v).wire

pub takes_beside : (h : ℕ) (x a b : ℕ → ℕ) → Both h x a b → Takes Beside h x a b
takes_beside h x a b both v l =
    ⊎_elim (λ u. rw (lt-ltb v h u) (both false v u)) (λ u. rw (le-ltb v h u) (ap x (omega arith) ∙ both true (v - h) (omega arith))) (lt_or_le v h)

-- two wires of the two networks are one seat only where they are the same
seat_is : (h : ℕ) (d t : Bool) (u q : ℕ) → u < h → q < h → seat d h u ≡ seat t h q → (d ≡ t) × (u ≡ q)
seat_is h true true u q l m e = (refl, omega arith)
seat_is h true false u q l m e = absurd (omega arith)
seat_is h false true u q l m e = absurd (omega arith)
seat_is h false false u q l m e = (refl, e)

seat_below : (t : Bool) (h q : ℕ) → q < h → seat t h q < 2 * h
seat_below true h q l = omega arith
seat_below false h q l = omega arith

-- the seat of inlet s of cell c
seat_inlet : (t : Bool) (h c s : ℕ) → h % 2 ≡ 0 → seat t h (2 * c + s) ≡ 2 * seat t (h / 2) c + s
seat_inlet true h c s even = omega arith
seat_inlet false h c s even = refl

seat_cell : (t : Bool) (h i : ℕ) → h % 2 ≡ 0 → (seat t h i / 2 ≡ seat t (h / 2) (i / 2)) × (seat t h i % 2 ≡ i % 2)
seat_cell true h i even = (omega arith, omega arith)
seat_cell false h i even = (refl, refl)

module _ (w h : ℕ) (twice : w ≡ 2 * h) (even : h % 2 ≡ 0) (s : Feed) (f r : ℕ → ℕ) (o : Once h f) (O : Once w r)
    (fed : (v : ℕ) → r v ≡ feed_at s h f v) (x a b : ℕ → ℕ) (takes : Takes s h x a b) where
  -- the wire of the 2h that feeds place q of the two, and the wire of one of the two that it goes to
  record Source (t : Bool) (q : ℕ) : Type 0 where
    outer : ℕ
    inner : ℕ
    outer_in : outer < w
    inner_in : inner < h
    outer_at : r outer ≡ seat t h q
    inner_at : f inner ≡ q
    alike : x outer ≡ cond t b a inner

  source : (t : Bool) (q : ℕ) → q < h → Source t q
  unfolding feed_at
  source t q l =
      let p : ℕ = seat t h q in
      let within : p < w = omega (arith, seat_below t h q l) in
      let v : ℕ = O.wire p in
      let in-v : v < w = O.wire_below p within in
      let to : Fed = fed_of s h v in
      let in-to : to.wire < h = fed_below s h v (omega arith) in
      let is : (to.second ≡ t) × (f to.wire ≡ q) = seat_is h to.second t (f to.wire) q (o.below to.wire in-to) l (sym (fed v) ∙ O.there p within) in
      record {
        outer = v;
        inner = to.wire;
        outer_in = in-v;
        inner_in = in-to;
        outer_at = O.there p within;
        inner_at = is.1;
        alike = takes v (omega arith) ∙ ap (λ u. cond u b a to.wire) is.0;
      }

  csum_fed : (t : Bool) (c : ℕ) → 2 * c + 1 < h → csum w (λ v. r v / 2) x (seat t (h / 2) c) ≡ csum h (λ v. f v / 2) (cond t b a) c
  csum_fed t c l =
      let top : Source t (2 * c + 0) = source t (2 * c + 0) (omega arith) in
      let bottom : Source t (2 * c + 1) = source t (2 * c + 1) l in
      csum_once w r O x (seat t (h / 2) c) top.outer bottom.outer top.outer_in bottom.outer_in
      (top.outer_at ∙ seat_inlet t h c 0 even ∙ omega arith) (bottom.outer_at ∙ seat_inlet t h c 1 even)
      ∙ ap₂ ◌+◌ top.alike bottom.alike
      ∙ sym (csum_once h f o (cond t b a) c top.inner bottom.inner top.inner_in bottom.inner_in (top.inner_at ∙ omega arith) bottom.inner_at)

  pub layer_fed : Both h (layer w (λ v. r v / 2) x) (layer h (λ v. f v / 2) a) (layer h (λ v. f v / 2) b)
  unfolding layer
  layer_fed t i l =
      ap₂ outlet (seat_cell t h i even).1 (ap (csum w (λ v. r v / 2) x) (seat_cell t h i even).0 ∙ csum_fed t (i / 2) (omega arith)) ∙ of_one t
    where
      of_one : (t : Bool) → layer h (λ v. f v / 2) (cond t b a) i ≡ cond t (layer h (λ v. f v / 2) b) (layer h (λ v. f v / 2) a) i
      of_one true = refl
      of_one false = refl

-- ---- layers of the two side by side: from level m on, what is so at level m stays so
module _ (w h : ℕ) (twice : w ≡ 2 * h) (r R : ℕ → ℕ → ℕ) (o : (L : ℕ) → Once h (r L)) (O : (L : ℕ) → Once w (R L)) (x a b : ℕ → ℕ) where
  abbrev Level : ℕ → Type 0
  Level L = Both h (level_of w R x L) (level_of h r a L) (level_of h r b L)

  pub flow_beside : (m d : ℕ) → m ≤ d → Level m → ((L : ℕ) → m ≤ L → L < d → (h % 2 ≡ 0) × ((v : ℕ) → R L v ≡ feed_at Beside h (r L) v)) → Level d
  unfolding flow
  flow_beside m zero l at-m beside = let none : m ≡ 0 = omega arith in rw none at at-m
  flow_beside m (suc d) l at-m beside = elim (ℕ_discrete m (suc d)) [
    | yes e ↦ rw e at at-m
    | no n ↦
        let row : (h % 2 ≡ 0) × ((v : ℕ) → R d v ≡ feed_at Beside h (r d) v) = beside d (omega arith) (omega arith) in
        layer_fed w h twice row.0 Beside (r d) (R d) (o d) (O d) row.1 _ _ _
        (takes_beside h _ _ _ (flow_beside m d (omega arith) at-m (λ L p q. beside L p (omega arith))))
  ]
