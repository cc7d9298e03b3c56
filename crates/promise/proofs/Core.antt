-- A layered network that runs, as seen from outside, and what its steps keep: any width, depth and rows, and any row of exits.
-- Wire v of level L feeds cell L v, and wire v of the last level goes to exit v. Of the rows it is asked that each cell is below
-- w/2 and each exit below w. Assumes nothing.
use Prim.Native.Nat.{ℕ, zero, suc, ◌+◌, ◌*◌, ◌/◌, ◌%◌, ◌≤◌, ◌<◌}
use mathlib.Core.Path.{◌≡◌, refl, ap, sym, ◌∙◌}
use mathlib.Core.Bool.{Bool, true, false, not}
use mathlib.Core.Logic.{◌≢◌}
use native.Mathlib.Nat.{add-zero, le_refl, le_trans}
use native.Mathlib.Decide.{ℕ_discrete}
use native.Mathlib.Omega.{arith}
use Rattle.rest.specs.Sum.{only, sum}
use Rattle.rest.specs.Flow.{csum, layer, flow}
use Rattle.rest.proofs.Sum.{only_same, only_other, only_mono, sum_ext, sum_mono, sum_change, sum_zero}
use Rattle.rest.proofs.Flow.{csum_zero, csum_ext, csum_bump, outlet_bump, layer_zero, layer_ext, layer_mono}
use Rattle.moves.specs.Turn.{outlet_of}

-- toggles, exit counts, the tokens on each wire of each level, those inside, those that entered
pub record Seen : Type 0 where
  pub down : ℕ → ℕ → Bool
  pub count : ℕ → ℕ
  pub tokens : ℕ → ℕ → ℕ
  pub inside : ℕ
  pub entered : ℕ

-- one token on wire v of level L
unfoldable pub one : ℕ → ℕ → ℕ → ℕ → ℕ
one L v K u = only L K (only v u 1)

module _ (L v K u : ℕ) where
  pub one_here : K ≡ L → u ≡ v → one L v K u ≡ 1
  unfolding one
  one_here e f = only_same L K (only v u 1) (sym e) ∙ only_same v u 1 (sym f)

  pub one_level : K ≢ L → one L v K u ≡ 0
  unfolding one
  one_level n = only_other L K (only v u 1) (λ e. n (sym e))

  pub one_wire : u ≢ v → one L v K u ≡ 0
  unfolding one
  one_wire n = elim (ℕ_discrete L K) [
    | yes e ↦ only_same L K (only v u 1) e ∙ only_other v u 1 (λ f. n (sym f))
    | no m ↦ only_other L K (only v u 1) m
  ]

pub one_same : (L v u : ℕ) → one L v L u ≡ only v u 1
unfolding one
one_same L v u = only_same L L (only v u 1) refl

-- a flipped toggle shows the other outlet
outlet_not : (b : Bool) (n : ℕ) → outlet_of b ≡ n % 2 → outlet_of (not b) ≡ (n + 1) % 2
outlet_not false n h = omega arith
outlet_not true n h = omega arith

-- P L v tokens have left wire v of level L: one more from wire v of level L
abbrev pub left : ℕ → ℕ → (ℕ → ℕ → ℕ) → ℕ → ℕ → ℕ
left L v P K u = P K u + one L v K u

-- how many have come to each wire: those that entered, and then what the cells of the layer before have let through
unfoldable pub arrived : ℕ → (ℕ → ℕ → ℕ) → (ℕ → ℕ) → (ℕ → ℕ → ℕ) → ℕ → ℕ → ℕ
arrived w cell x P zero v = x v
arrived w cell x P (suc L) v = layer w (cell L) (P L) v

module _ (w d : ℕ) (cell : ℕ → ℕ → ℕ) (exit : ℕ → ℕ) where
  -- ---- an opening, and the three steps: what is new, and that all else is the same
  pub record Opens (o : Seen) : Type 0 where
    pub downs : (L c : ℕ) → L < d → c < w / 2 → o.down L c ≡ false
    pub counts : (i : ℕ) → i < w → o.count i ≡ 0
    pub moves : (L v : ℕ) → o.tokens L v ≡ 0
    pub insides : o.inside ≡ 0
    pub entries : o.entered ≡ 0

  -- a token on wire v of level 0
  pub record Enters (a b : Seen) (v : ℕ) : Type 0 where
    pub wire : v < w
    pub downs : (L c : ℕ) → L < d → c < w / 2 → b.down L c ≡ a.down L c
    pub counts : (i : ℕ) → i < w → b.count i ≡ a.count i
    pub moves : (L u : ℕ) → b.tokens L u ≡ a.tokens L u + one 0 v L u
    pub insides : b.inside ≡ a.inside + 1
    pub entries : b.entered ≡ a.entered + 1

  -- the token on wire v of level L passes its cell
  pub record Passes (a b : Seen) (L v : ℕ) : Type 0 where
    pub level : L < d
    pub wire : v < w
    pub flips : b.down L (cell L v) ≡ not (a.down L (cell L v))
    pub downs : (K c : ℕ) → K < d → c < w / 2 → ¬ ((K ≡ L) × (c ≡ cell L v)) → b.down K c ≡ a.down K c
    pub counts : (i : ℕ) → i < w → b.count i ≡ a.count i
    pub moves : (K u : ℕ) → b.tokens K u + one L v K u ≡ a.tokens K u + one (suc L) (2 * cell L v + outlet_of (a.down L (cell L v))) K u
    pub insides : b.inside ≡ a.inside
    pub entries : b.entered ≡ a.entered

  -- the token on wire v of the last level is dealt its number
  pub record Deals (a b : Seen) (v : ℕ) : Type 0 where
    pub wire : v < w
    pub downs : (L c : ℕ) → L < d → c < w / 2 → b.down L c ≡ a.down L c
    pub raised : b.count (exit v) ≡ a.count (exit v) + 1
    pub counts : (i : ℕ) → i < w → i ≢ exit v → b.count i ≡ a.count i
    pub moves : (K u : ℕ) → b.tokens K u + one d v K u ≡ a.tokens K u
    pub insides : b.inside + 1 ≡ a.inside
    pub entries : b.entered ≡ a.entered

  -- ---- x v have entered on wire v, and P L v have left wire v of level L
  pub record Balanced (o : Seen) (x : ℕ → ℕ) (P : ℕ → ℕ → ℕ) : Type 0 where
    pub wires : (L v : ℕ) → L ≤ d → v < w → arrived w cell x P L v ≡ P L v + o.tokens L v
    pub exits : (i : ℕ) → i < w → csum w exit (P d) i ≡ o.count i
    pub toggles : (L c : ℕ) → L < d → c < w / 2 → outlet_of (o.down L c) ≡ csum w (cell L) (P L) c % 2
    pub entries : sum w x ≡ o.entered
    pub total : sum w o.count + o.inside ≡ o.entered

  opens_wires : (o : Seen) → Opens o → (L v : ℕ) → arrived w cell (λ u. 0) (λ K u. 0) L v ≡ 0 + o.tokens L v
  unfolding arrived
  opens_wires o s zero v = omega (arith, s.moves zero v)
  opens_wires o s (suc L) v = omega (arith, s.moves (suc L) v, layer_zero w (cell L) v)

  pub opens_balanced : (o : Seen) → Opens o → Balanced o (λ u. 0) (λ K u. 0)
  opens_balanced o s = record {
    wires = λ L v l m. opens_wires o s L v;
    exits = λ i l. csum_zero w exit i ∙ sym (s.counts i l);
    toggles = λ L c l m. rw (s.downs L c l m, csum_zero w (cell L) c);
    entries = omega (arith, s.entries, sum_zero w (λ u. 0) (λ i l. refl));
    total = omega (arith, s.entries, s.insides, sum_zero w o.count s.counts);
  }

  -- ---- entering
  enters_wires : (a b : Seen) (v : ℕ) (x : ℕ → ℕ) (P : ℕ → ℕ → ℕ) → Enters a b v → Balanced a x P
      → (L u : ℕ) → L ≤ d → u < w → arrived w cell (λ u. x u + one 0 v 0 u) P L u ≡ P L u + b.tokens L u
  unfolding arrived
  enters_wires a b v x P s i zero u l m = omega (arith, i.wires zero u l m, s.moves zero u)
  enters_wires a b v x P s i (suc L) u l m =
      omega (arith, i.wires (suc L) u l m, s.moves (suc L) u, one_level 0 v (suc L) u (omega arith))

  pub enters_balanced : (a b : Seen) (v : ℕ) (x : ℕ → ℕ) (P : ℕ → ℕ → ℕ) → Enters a b v → Balanced a x P
      → Balanced b (λ u. x u + one 0 v 0 u) P
  enters_balanced a b v x P s i =
      let more : sum w (λ u. x u + one 0 v 0 u) + x v ≡ sum w x + (x v + one 0 v 0 v)
      = sum_change w x (λ u. x u + one 0 v 0 u) v s.wire (λ u m n. omega (arith, one_wire 0 v 0 u n)) in
      record {
        wires = enters_wires a b v x P s i;
        exits = λ j l. i.exits j l ∙ sym (s.counts j l);
        toggles = λ L c l m. ap outlet_of (s.downs L c l m) ∙ i.toggles L c l m;
        entries = omega (arith, more, one_here 0 v 0 v refl refl, s.entries, i.entries);
        total = omega (arith, s.insides, sum_ext w b.count a.count s.counts, s.entries, i.total);
      }

  -- ---- one more has left a wire of level L: the cell that it feeds has had one more, and no other has
  left_other : (L v K c : ℕ) (f : ℕ → ℕ) (P : ℕ → ℕ → ℕ) → K ≢ L → csum w f (left L v P K) c ≡ csum w f (P K) c
  left_other L v K c f P n = csum_ext w f (left L v P K) (P K) c (λ u m. omega (arith, one_level L v K u n))

  left_csum : (L v c : ℕ) (f : ℕ → ℕ) (P : ℕ → ℕ → ℕ) → v < w → csum w f (left L v P L) c ≡ csum w f (P L) c + only (f v) c 1
  left_csum L v c f P m =
      csum_bump w f (P L) (left L v P L) v c m
      (omega (arith, one_here L v L v refl refl))
      (λ u k n. omega (arith, one_wire L v L u n))

  -- ---- passing: the token comes to the wire that the count of its cell says, and to no other
  passes_arrived : (L v p : ℕ) (x : ℕ → ℕ) (P : ℕ → ℕ → ℕ) → v < w → p ≡ 2 * cell L v + csum w (cell L) (P L) (cell L v) % 2
      → (K u : ℕ) → arrived w cell x (left L v P) K u ≡ arrived w cell x P K u + one (suc L) p K u
  unfolding arrived layer
  passes_arrived L v p x P m e zero u = omega (arith, one_level (suc L) p zero u (omega arith))
  passes_arrived L v p x P m e (suc K) u = elim (ℕ_discrete K L) [
    | yes k ↦ rw k (elim (ℕ_discrete (cell L v) (u / 2)) [
      | yes c ↦ rw (left_csum L v (u / 2) (cell L) P m, only_same (cell L v) (u / 2) 1 c, one_same (suc L) p u, e, c)
          (outlet_bump (csum w (cell L) (P L) (u / 2)) (u / 2) u refl)
      | no c ↦ rw (left_csum L v (u / 2) (cell L) P m, only_other (cell L v) (u / 2) 1 c, add-zero)
          (omega (arith, one_wire (suc L) p (suc L) u (λ f. c (omega arith))))
    ])
    | no k ↦ rw (left_other L v K (u / 2) (cell K) P k) (omega (arith, one_level (suc L) p (suc K) u (omega arith)))
  ]

  passes_toggles : (a b : Seen) (L v : ℕ) (x : ℕ → ℕ) (P : ℕ → ℕ → ℕ) → Passes a b L v → Balanced a x P → cell L v < w / 2
      → (K c : ℕ) → K < d → c < w / 2 → outlet_of (b.down K c) ≡ csum w (cell K) (left L v P K) c % 2
  passes_toggles a b L v x P s i f K c l k = elim (ℕ_discrete K L) [
    | yes e ↦ elim (ℕ_discrete c (cell L v)) [
      | yes g ↦ rw (e, g, left_csum L v (cell L v) (cell L) P s.wire, only_same (cell L v) (cell L v) 1 refl, s.flips)
          (outlet_not (a.down L (cell L v)) (csum w (cell L) (P L) (cell L v)) (i.toggles L (cell L v) s.level f))
      | no g ↦ rw (s.downs K c l k (λ z. g z.1), e, left_csum L v c (cell L) P s.wire, only_other (cell L v) c 1 (λ z. g (sym z)), add-zero)
          (i.toggles L c s.level k)
    ]
    | no e ↦ rw (s.downs K c l k (λ z. e z.0), left_other L v K c (cell K) P e) (i.toggles K c l k)
  ]

  pub passes_balanced : ((L v : ℕ) → L < d → v < w → cell L v < w / 2)
      → (a b : Seen) (L v : ℕ) (x : ℕ → ℕ) (P : ℕ → ℕ → ℕ) → Passes a b L v → Balanced a x P → Balanced b x (left L v P)
  passes_balanced fits a b L v x P s i =
      let f : cell L v < w / 2 = fits L v s.level s.wire in
      let p : ℕ = 2 * cell L v + outlet_of (a.down L (cell L v)) in
      let e : p ≡ 2 * cell L v + csum w (cell L) (P L) (cell L v) % 2 = omega (arith, i.toggles L (cell L v) s.level f) in
      record {
        wires = λ K u l k. omega (arith, passes_arrived L v p x P s.wire e K u, s.moves K u, i.wires K u l k);
        exits = λ j l. left_other L v d j exit P (omega (arith, s.level)) ∙ i.exits j l ∙ sym (s.counts j l);
        toggles = passes_toggles a b L v x P s i f;
        entries = omega (arith, s.entries, i.entries);
        total = omega (arith, s.insides, sum_ext w b.count a.count s.counts, s.entries, i.total);
      }

  -- ---- dealing
  deals_arrived : (v : ℕ) (x : ℕ → ℕ) (P : ℕ → ℕ → ℕ) (K u : ℕ) → K ≤ d → arrived w cell x (left d v P) K u ≡ arrived w cell x P K u
  unfolding arrived layer
  deals_arrived v x P zero u l = refl
  deals_arrived v x P (suc K) u l = rw (left_other d v K (u / 2) (cell K) P (omega arith))

  deals_exits : (a b : Seen) (v : ℕ) (x : ℕ → ℕ) (P : ℕ → ℕ → ℕ) → Deals a b v → Balanced a x P → exit v < w
      → (i : ℕ) → i < w → csum w exit (left d v P d) i ≡ b.count i
  deals_exits a b v x P s i e j l = left_csum d v j exit P s.wire ∙ elim (ℕ_discrete (exit v) j) [
    | yes q ↦ rw (only_same (exit v) j 1 q, i.exits j l, ← q, s.raised)
    | no n ↦ omega (arith, only_other (exit v) j 1 n, i.exits j l, s.counts j l (λ q. n (sym q)))
  ]

  pub deals_balanced : (a b : Seen) (v : ℕ) (x : ℕ → ℕ) (P : ℕ → ℕ → ℕ) → exit v < w → Deals a b v → Balanced a x P
      → Balanced b x (left d v P)
  deals_balanced a b v x P e s i = record {
    wires = λ K u l k. omega (arith, deals_arrived v x P K u l, s.moves K u, i.wires K u l k);
    exits = deals_exits a b v x P s i e;
    toggles = λ K c l k. rw (s.downs K c l k, left_other d v K c (cell K) P (omega arith)) (i.toggles K c l k);
    entries = omega (arith, s.entries, i.entries);
    total = omega (arith, s.insides, sum_change w a.count b.count (exit v) e s.counts, s.raised, s.entries, i.total);
  }

  -- ---- what has come to each wire is at most what comes at rest
  pub arrived_le_flow : (x : ℕ → ℕ) (P : ℕ → ℕ → ℕ) → ((L v : ℕ) → L ≤ d → v < w → P L v ≤ arrived w cell x P L v)
      → (L v : ℕ) → L ≤ d → v < w → arrived w cell x P L v ≤ flow w cell x L v
  unfolding arrived flow
  arrived_le_flow x P h zero v l m = le_refl (x v)
  arrived_le_flow x P h (suc L) v l m =
      layer_mono w (cell L) (P L) (flow w cell x L) v
      (λ u k. le_trans (h L u (omega arith) k) (arrived_le_flow x P h L u (omega arith) k))

  -- so no exit has dealt more than it does at rest
  pub count_le_flow : (o : Seen) (x : ℕ → ℕ) (P : ℕ → ℕ → ℕ) → Balanced o x P
      → (i : ℕ) → i < w → o.count i ≤ csum w exit (flow w cell x d) i
  unfolding csum
  count_le_flow o x P k i l = rw (← k.exits i l)
      (sum_mono w (λ v. only (exit v) i (P d v)) (λ v. only (exit v) i (flow w cell x d v))
      (λ v m. only_mono (exit v) i (P d v) (flow w cell x d v) (le_trans (stays d v (le_refl d) m) (arrived_le_flow x P stays d v (le_refl d) m))))
    where
      stays : (L v : ℕ) → L ≤ d → v < w → P L v ≤ arrived w cell x P L v
      stays L v p q = omega (arith, k.wires L v p q)

  -- ---- at rest, with no token on any wire, what has come to each wire is what flows to it
  arrived_rest : (o : Seen) (x : ℕ → ℕ) (P : ℕ → ℕ → ℕ) → Balanced o x P → ((L v : ℕ) → L ≤ d → v < w → o.tokens L v ≡ 0)
      → (L v : ℕ) → L ≤ d → v < w → arrived w cell x P L v ≡ flow w cell x L v
  unfolding arrived flow
  arrived_rest o x P k none zero v l m = refl
  arrived_rest o x P k none (suc L) v l m =
      layer_ext w (cell L) (P L) (flow w cell x L) v
      (λ u n.
      let before : L ≤ d = omega arith in
      omega (arith, k.wires L u before n, none L u before n, arrived_rest o x P k none L u before n))

  -- so each exit has dealt what flows to it
  pub count_rest : (o : Seen) (x : ℕ → ℕ) (P : ℕ → ℕ → ℕ) → Balanced o x P → ((L v : ℕ) → L ≤ d → v < w → o.tokens L v ≡ 0)
      → (i : ℕ) → i < w → o.count i ≡ csum w exit (flow w cell x d) i
  count_rest o x P k none i l =
      sym (k.exits i l)
      ∙ csum_ext w exit (P d) (flow w cell x d) i
      (λ v m. omega (arith, k.wires d v (le_refl d) m, none d v (le_refl d) m, arrived_rest o x P k none d v (le_refl d) m))
