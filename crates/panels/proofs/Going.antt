-- From member to member: what a reader keeps of the members read so far is what the definitions say of them, and their panel
-- stands in the grid where it fits. Assumes nothing.
use mathlib.Core.Path.{◌≡◌, refl, sym, ap, ◌∙◌}
use mathlib.Core.Bool.{Bool, true, false}
use mathlib.Core.List.{List, [], ◌∷◌, ◌++◌, append-nil}
use mathlib.Core.Logic.{⊎_elim}
use Prim.Native.Nat.{ℕ, ◌+◌, ◌-◌, ◌*◌, ◌%◌, ◌<◌, ◌≤◌}
use native.Mathlib.Nat.{add-zero, zero-add}
use native.Mathlib.Decide.{ℕ_discrete}
use native.Mathlib.Omega.{arith}
use lib.ListN.{length, get_or, drop, length-drop}
use borrow.Author.Tests.{lt-ltb, le-ltb, eq-eqb, ne_eqb, eqb-true}
use Rattle.std.proofs.Common.{Option, Some, None, unwrap_or, Result, Ok, Err, IfOk}
use Rattle.network.proofs.Feeds.{lt_or_le}
use Rattle.records.specs.Reading.{length_in}
use Rattle.records.proofs.RoundTrips.{both}
use Rattle.designs.specs.declared.Stretch.{Stretch}
use Rattle.designs.specs.Panels.{Panel, in_series, side_by_side}
use Rattle.designs.specs.Members.{Joint, series, beside, joined, all_equal}
use Rattle.designs.specs.Records.{head_no}
use Rattle.designs.specs.Leaves.{Fault, Read, refused, made, judged}
use Rattle.designs.specs.Heads.{Past}
use Rattle.designs.specs.Designs.{Members, stopped, all, first, members_in, size_no, joined_at, record_at, design_of}
use Rattle.designs.proofs.Rows.{Rowed}
use Rattle.designs.proofs.Joints.{Lawful, lawful_series, lawful_beside, Every, none, every_last, all_equal_last, all_equal_first, joined_last, joined_first, rowed_joined}
use Rattle.designs.proofs.Heads.{Whole, headed, record_refused}
use Rattle.designs.proofs.Reading.{after, after_none, after_made, after_refused, members_none, members_more}
use Rattle.designs.proofs.Fair.{Fair, every_rowed, size_fair, record_fair}
use Rattle.leaves.specs.declared.Size.{Size}
use Rattle.leaves.specs.declared.grid.Grid.{Grid}
use Rattle.leaves.specs.Grid.{byte_at, Holds, Kept, Linked}
use Rattle.leaves.specs.Told.{Judged, Refused, Made, judged_by, size_of, told, told_at, ReadInto}
use Rattle.leaves.proofs.Filling.{kept_same, kept_row, kept_then}
use Rattle.leaves.proofs.Laying.{read_refused, read_made}
use Rattle.panels.specs.declared.Sum.{Sum}
use Rattle.panels.specs.Sums.{more, ExitsIn}

-- ---- two panels in the grid
module _ (row col : ℕ) (g g' : Grid) (p q : Panel) where
  -- side by side: q stands behind the columns of p
  pub holds_side : Holds g row col p → Kept row (col + p.width) g g' → Holds g' row (col + p.width) q → q.depth ≡ p.depth → col + (p.width + q.width) ≤ 64
      → Holds g' row col (side_by_side p q)
  holds_side x k y e room L v l m =
      ⊎_elim
      (λ (a : v < p.width). rw (lt-ltb v p.width a) (k.beside (row + L) (col + v) (omega arith) ∙ x L v l a))
      (λ (a : p.width ≤ v).
      let there : col + v ≡ col + p.width + (v - p.width) = omega arith in
      rw (le-ltb v p.width a)
      (ap (byte_at g' (row + L)) there ∙ y L (v - p.width) (omega arith) (omega arith) ∙ omega arith))
      (lt_or_le v p.width)

  -- one after another: q stands from the exit row of p on, and that row is put together with it
  module _ (x : Holds g row col p) (k : Kept (row + p.depth) col g g') (y : Holds g' (row + p.depth) col q) (rowed : Rowed p) (equal : q.width ≡ p.width)
      (deep : row + (p.depth + q.depth) ≤ 36) (room : col + p.width ≤ 64) {exits : Option (List ℕ)} {g'' : Grid} (out : exits ≡ Some (get_or g.rows (row + p.depth) []))
      (link : Linked exits (row + p.depth) col q.width g' g'') where
    exit_at_lem : (v : ℕ) → v < p.width → byte_at g (row + p.depth) (col + v) % 64 ≡ col + p.place p.depth v
    exit_at_lem v m =
        let low = (rowed.once p.depth (omega arith)).below v m in
        let is = x p.depth v (omega arith) m in
        omega arith

    linked_at : (v : ℕ) → v < p.width → byte_at g'' (row + p.depth) (col + v) ≡ col + q.place 0 (p.place p.depth v)
    linked_at v m =
        let low = (rowed.once p.depth (omega arith)).below v m in
        link.there _ out (omega arith) (omega arith) v (omega arith)
        ∙ ap (byte_at g' (row + p.depth)) (exit_at_lem v m)
        ∙ ap (λ (i : ℕ). byte_at g' i (col + p.place p.depth v)) (sym (add-zero (row + p.depth)))
        ∙ y 0 (p.place p.depth v) (omega arith) (omega arith)

    pub holds_series : Holds g'' row col (in_series p q)
    holds_series L v l m =
        ⊎_elim
        (λ (a : L < p.depth).
        rw (lt-ltb L p.depth a)
        (link.row_alone.others (row + L) (col + v) (λ e. omega arith) ∙ k.above (row + L) (col + v) (omega arith) ∙ x L v (omega arith) m))
        (λ (a : p.depth ≤ L).
        ⊎_elim
        (λ (b : p.depth < L).
        let there : row + L ≡ row + p.depth + (L - p.depth) = omega arith in
        rw (le-ltb L p.depth a, ne_eqb L p.depth (λ e. omega arith))
        (link.row_alone.others (row + L) (col + v) (λ e. omega arith)
        ∙ ap (λ (i : ℕ). byte_at g' i (col + v)) there
        ∙ y (L - p.depth) v (omega arith) (omega arith)))
        (λ (b : L ≤ p.depth).
        let is : L ≡ p.depth = omega arith in
        let first : p.depth - p.depth ≡ 0 = omega arith in
        rw (is, le-ltb p.depth p.depth (omega arith), eq-eqb p.depth p.depth refl, first) (linked_at v m))
        (lt_or_le p.depth L))
        (lt_or_le L p.depth)

-- ---- what a record that was read comes to
pub told_refused : (x : Read) (f : Fault) → Refused f ≡ told x → x ≡ refused f
unfolding told
told_refused (refused y) f e = let same : y ≡ f = cc in rw same
told_refused (made p) f e = let never : ◌≡◌ {A = ℕ} 0 1 = cc in absurd (omega arith)

pub record MadeOf (x : Read) (q : Size) : Type 0 where
  pub panel : Panel
  pub is : x ≡ made panel
  pub size : q ≡ size_of panel

pub told_made : (x : Read) (q : Size) → Made q ≡ told x → MadeOf x q
unfolding told
told_made (refused y) q e = let never : ◌≡◌ {A = ℕ} 0 1 = cc in absurd (omega arith)
told_made (made p) q e = record { panel = p; is = refl; size = let same : q ≡ size_of p = cc in same }

-- ---- the sums of the members so far
abbrev pub first_own : Joint → List Panel → Option ℕ
first_own j [] = None
first_own j (p ∷ ps) = Some (j.equal (joined j (p ∷ ps)))

abbrev pub sum_of : Joint → (Panel → ℕ) → List Panel → Sum
sum_of j adds ps = record { first = first_own j ps; equal = all_equal j ps; total = adds (joined j ps) }

-- what members add up to
pub record Adds (j : Joint) (adds : Panel → ℕ) : Type 0 where
  pub law : Lawful j
  pub none_is : adds (joined j []) ≡ 0
  pub more_is : (p q : Panel) → adds (j.join p q) ≡ adds p + adds q
  pub small : (p : Panel) → Fair p → adds p ≤ 64

pub series_adds : Adds series (λ p. p.depth)
unfolding joined
series_adds = record { law = lawful_series; none_is = refl; more_is = λ p q. refl; small = λ p f. omega (arith, f.within.deep) }

pub beside_adds : Adds beside (λ p. p.width)
unfolding joined
beside_adds = record { law = lawful_beside; none_is = refl; more_is = λ p q. refl; small = λ p f. omega (arith, f.within.wide) }

more_total : (z : Sum) (own added : ℕ) → (more z own added).total ≡ z.total + added
unfolding more
more_total z own added = refl

none_equal : (j : Joint) → all_equal j [] ≡ true
unfolding all_equal
none_equal j = refl

module _ {j : Joint} {adds : Panel → ℕ} (a : Adds j adds) where
  pub sum_last : (ps : List Panel) (q : Panel) → more (sum_of j adds ps) (j.equal q) (adds q) ≡ sum_of j adds (ps ++ q ∷ [])
  unfolding more
  sum_last [] q = rw (joined_first j q, all_equal_first j q, none_equal j, a.none_is, zero-add (adds q), eq-eqb (j.equal q) (j.equal q) refl)
  sum_last (p ∷ ps) q = rw (joined_last j p q ps, all_equal_last j a.law p q ps, a.law.same (joined j (p ∷ ps)) q, a.more_is (joined j (p ∷ ps)) q)

-- ---- the size of the members so far
first_size : (ps : List Panel) → unwrap_or (first_own series ps) 0 ≡ (joined series ps).width
unfolding joined
first_size [] = refl
first_size (p ∷ ps) = refl

first_deep : (ps : List Panel) → unwrap_or (first_own beside ps) 0 ≡ (joined beside ps).depth
unfolding joined
first_deep [] = refl
first_deep (p ∷ ps) = refl

pub series_size : (ps : List Panel) {sum : Sum} → sum ≡ sum_of series (λ p. p.depth) ps → ◌≡◌ {A = Size} (record { width = unwrap_or sum.first 0; depth = sum.total }) (size_of (joined series ps))
series_size ps e = rw (e, first_size ps)

pub beside_size : (ps : List Panel) {sum : Sum} → sum ≡ sum_of beside (λ p. p.width) ps → ◌≡◌ {A = Size} (record { width = sum.total; depth = unwrap_or sum.first 0 }) (size_of (joined beside ps))
beside_size ps e = rw (e, first_deep ps)

-- ---- one member more in the grid
side_last : (ps : List Panel) (p : Panel) (g g' : Grid) (row col : ℕ)
    → (all_equal beside ps ≡ true → row + (joined beside ps).depth ≤ 36 → col + (joined beside ps).width ≤ 64 → Holds g row col (joined beside ps))
    → Kept row (col + (joined beside ps).width) g g'
    → (row + p.depth ≤ 36 → col + (joined beside ps).width + p.width ≤ 64 → Holds g' row (col + (joined beside ps).width) p)
    → all_equal beside (ps ++ p ∷ []) ≡ true → row + (joined beside (ps ++ p ∷ [])).depth ≤ 36 → col + (joined beside (ps ++ p ∷ [])).width ≤ 64
    → Holds g' row col (joined beside (ps ++ p ∷ []))
side_last [] p g g' row col x k y e =
    let none = beside_adds.none_is in
    rw (joined_first beside p) (λ d w. let there : col + (joined beside []).width ≡ col = omega arith in rw there at (y d (omega arith)))
side_last (q ∷ qs) p g g' row col x k y e =
    let b = both (all_equal beside (q ∷ qs)) _ (sym (all_equal_last beside lawful_beside q p qs) ∙ e) in
    let same = eqb-true _ _ b.1 in
    rw (joined_last beside q p qs)
    (λ d w. holds_side row col g g' (joined beside (q ∷ qs)) p (x b.0 d (omega arith)) k (y (omega arith) (omega arith)) same w)

series_last : (ps : List Panel) (p : Panel) (g g' g'' : Grid) (exits : Option (List ℕ)) (row col : ℕ) → Every Rowed ps
    → (all_equal series ps ≡ true → row + (joined series ps).depth ≤ 36 → col + (joined series ps).width ≤ 64 → Holds g row col (joined series ps))
    → Kept (row + (joined series ps).depth) col g g'
    → (row + (joined series ps).depth + p.depth ≤ 36 → col + p.width ≤ 64 → Holds g' (row + (joined series ps).depth) col p)
    → ExitsIn g (row + (joined series ps).depth) (first_own series ps) exits
    → Linked exits (row + (joined series ps).depth) col p.width g' g''
    → all_equal series (ps ++ p ∷ []) ≡ true → row + (joined series (ps ++ p ∷ [])).depth ≤ 36 → col + (joined series (ps ++ p ∷ [])).width ≤ 64
    → Holds g'' row col (joined series (ps ++ p ∷ []))
series_last [] p g g' g'' exits row col rowed x k y out link e =
    let none = series_adds.none_is in
    rw (joined_first series p, link.none out) (λ d w. let there : row + (joined series []).depth ≡ row = omega arith in rw there at (y (omega arith) w))
series_last (q ∷ qs) p g g' g'' exits row col rowed x k y out link e =
    let b = both (all_equal series (q ∷ qs)) _ (sym (all_equal_last series lawful_series q p qs) ∙ e) in
    let same = eqb-true _ _ b.1 in
    rw (joined_last series q p qs)
    (λ d w. holds_series row col g g' (joined series (q ∷ qs)) p (x b.0 (omega arith) w) k (y (omega arith) (omega arith))
    (rowed_joined series lawful_series (q ∷ qs) b.0 rowed) same d w (out (omega arith)) link)

-- ---- a record that was made has a whole head
made_headed : (left at : ℕ) (outermost : Bool) (s : List ℕ) (p : Panel) → record_at left outermost at s ≡ made p → Whole left s
made_headed left at outermost s p e = elim (ℕ_discrete (head_no left outermost s) 0) [
  | yes z ↦ headed left outermost s z
  | no n ↦ let x = record_refused left outermost at s n in let never : ◌≡◌ {A = ℕ} 0 1 = cc in absurd (omega arith)
]

pub made_whole : {left row col : ℕ} (at : ℕ) (outermost : Bool) {s : List ℕ} {g g' : Grid} {q : Size} → ReadInto (record_at left outermost at s) row col g g' (Made q) → Whole left s
made_whole {left} at outermost {s} {q = q} o = let m = told_made _ q o.answer in made_headed left at outermost s m.panel m.is

-- and what stands behind it is shorter
pub past_shorter : {s : List ℕ} {at left : ℕ} {rest : Stretch} → Past s at left rest → Whole left s → length rest.bytes.now + 4 ≤ length s
past_shorter {s} o w = omega (arith, ap length o.bytes_are, length-drop (length_in s) s, w.head, w.body)

-- judged by a number of its own
judged_read : {row col : ℕ} (at number : ℕ) (p : Panel) {before after : Grid} → Kept row col before after
    → (number ≡ 0 → row + p.depth ≤ 36 → col + p.width ≤ 64 → Holds after row col p) → ReadInto (judged at number p) row col before after (told_at at number (size_of p))
unfolding judged told_at
judged_read at number p k t = elim (ℕ_discrete number 0) [
  | yes z ↦ rw (eq-eqb number 0 z) (read_made p (record { kept = k; there = t z }))
  | no n ↦ rw (ne_eqb number 0 n) (read_refused _ k)
]

-- ---- the members so far: those of the record at an offset that stand before `here`, behind which the rest is left
module _ (j : Joint) (adds : Panel → ℕ) (left at : ℕ) (s : List ℕ) (row col : ℕ) (before : Grid) where
  abbrev pub members : Members
  members = members_in (record_at left false) (length s) (at + 4) s

  pub record Going (now : Grid) (here : ℕ) (rest : List ℕ) (sum : Sum) : Type 0 where
    pub fuel : ℕ
    pub enough : length rest ≤ fuel
    pub inside : here + length rest ≡ at + 4 + length s
    pub so_far : List Panel
    pub fair : Every Fair so_far
    pub sum_is : sum ≡ sum_of j adds so_far
    pub low : sum.total + 64 * (at + 4) ≤ 64 * here
    pub same : after so_far (members_in (record_at left false) fuel here rest) ≡ members
    pub kept : Kept row col before now
    pub there : all_equal j so_far ≡ true → row + (joined j so_far).depth ≤ 36 → col + (joined j so_far).width ≤ 64 → Holds now row col (joined j so_far)

  pub begin : Adds j adds → (sum : Sum) → sum ≡ record { first = None; equal = true; total = 0 } → Going before (at + 4) s sum
  unfolding joined
  begin a sum e = record {
    fuel = length s;
    enough = omega arith;
    inside = refl;
    so_far = [];
    fair = none;
    sum_is = e ∙ rw (none_equal j, a.none_is);
    low = omega (arith, ap (λ (x : Sum). x.total) e);
    same = after_none _;
    kept = kept_same row col before;
    there = λ e r k L v l m. absurd (omega arith);
  }

module _ {j : Joint} {adds : Panel → ℕ} {left at : ℕ} {s : List ℕ} {row col : ℕ} {before now : Grid} {here : ℕ} {rest : List ℕ} {sum : Sum}
    (o : Going j adds left at s row col before now here rest sum) where
  abbrev goal : Grid → Judged → Type 0
  goal next r = ReadInto (joined_at j at (members j adds left at s row col before)) row col before next r

  -- ---- at the end
  all_read : length rest ≡ 0 → members j adds left at s row col before ≡ all o.so_far
  unfolding after
  all_read l = sym o.same ∙ ap (after o.so_far) (members_none (record_at left false) o.fuel here rest l) ∙ ap all (append-nil o.so_far)

  pub ended : length rest ≡ 0 → {q : Size} → q ≡ size_of (joined j o.so_far) → {r : Judged} → r ≡ told_at at (size_no sum.equal q.width q.depth) q → goal now r
  unfolding joined_at
  ended l {q} is {r} e =
      let p = joined j o.so_far in
      rw (all_read l, e, is, o.sum_is)
      (judged_read at (size_no (all_equal j o.so_far) p.width p.depth) p o.kept (λ z. o.there (size_fair (all_equal j o.so_far) p.width p.depth z).equal_all))

  module _ (some : 1 ≤ length rest) where
    abbrev front : Read
    front = record_at left false here rest

    abbrev further : Members
    further = members_in (record_at left false) (o.fuel - 1) (here + length_in rest) (drop (length_in rest) rest)

    turn : after o.so_far (first front further) ≡ members j adds left at s row col before
    turn = ap (after o.so_far) (sym (members_more (record_at left false) o.fuel here rest some o.enough)) ∙ o.same

    -- ---- a member that is refused
    pub stopped_at : {f : Fault} {row' col' : ℕ} {next : Grid} → row ≤ row' → col ≤ col' → ReadInto front row' col' now next (Refused f) → goal next (Refused f)
    unfolding joined_at
    stopped_at {f} r c got =
        let is = told_refused front f got.answer in
        let stop : members j adds left at s row col before ≡ stopped f = sym turn ∙ ap (λ (y : Read). after o.so_far (first y further)) is ∙ after_refused o.so_far f further in
        rw stop (read_refused f (kept_then o.kept got.kept r c))

    -- ---- a member that is made
    pub gone_on : Adds j adds → {p : Panel} → front ≡ made p → {more-sum : Sum} → more-sum ≡ more sum (j.equal p) (adds p) → {past : Stretch} → Past rest here left past → {next : Grid} → Kept row col before next
        → (all_equal j (o.so_far ++ p ∷ []) ≡ true → row + (joined j (o.so_far ++ p ∷ [])).depth ≤ 36 → col + (joined j (o.so_far ++ p ∷ [])).width ≤ 64 → Holds next row col (joined j (o.so_far ++ p ∷ [])))
        → Going j adds left at s row col before next past.at past.bytes.now more-sum
    gone_on a {p} x {more-sum} sum_more {past} q {next} k t =
        let fair = record_fair left false here rest p x in
        let whole = made_headed left here false rest p x in
        let long : length past.bytes.now ≡ length rest - length_in rest = ap length q.bytes_are ∙ length-drop (length_in rest) rest in
        let is : more-sum ≡ sum_of j adds (o.so_far ++ p ∷ []) = sum_more ∙ ap (λ (z : Sum). more z (j.equal p) (adds p)) o.sum_is ∙ sum_last a o.so_far p in
        let small = a.small p fair in
        let total : more-sum.total ≡ sum.total + adds p = ap (λ (z : Sum). z.total) sum_more ∙ more_total sum (j.equal p) (adds p) in
        record {
          fuel = o.fuel - 1;
          enough = omega (arith, whole.head, o.enough);
          inside = omega (arith, q.at_is, whole.body, o.inside);
          so_far = o.so_far ++ p ∷ [];
          fair = every_last o.fair fair;
          sum_is = is;
          low = omega (arith, q.at_is, whole.head, o.low);
          same = rw (q.at_is, q.bytes_are) (sym (after_made o.so_far p further) ∙ ap (λ (y : Read). after o.so_far (first y further)) (sym x) ∙ turn);
          kept = k;
          there = t;
        }

-- ---- a turn of each reader
module _ {left at : ℕ} {s : List ℕ} {row col : ℕ} {before now : Grid} {here : ℕ} {rest : List ℕ} {sum : Sum} where
  pub turned_beside : (o : Going beside (λ p. p.width) left at s row col before now here rest sum) → 1 ≤ length rest → {q : Size} {next : Grid}
      → ReadInto (record_at left false here rest) row (col + sum.total) now next (Made q) → {more-sum : Sum} → more-sum ≡ more sum q.depth q.width
      → {past : Stretch} → Past rest here left past → Going beside (λ p. p.width) left at s row col before next past.at past.bytes.now more-sum
  turned_beside o some {q} {next} got {more-sum} sum_more {past} behind =
      let m = told_made _ q got.answer in
      let w : sum.total ≡ (joined beside o.so_far).width = ap (λ (z : Sum). z.total) o.sum_is in
      let k : Kept row (col + (joined beside o.so_far).width) now next = rw w at got.kept in
      let t = rw w at (got.there m.panel m.is) in
      gone_on o some beside_adds m.is (sum_more ∙ ap (λ (z : Size). more sum z.depth z.width) m.size) behind (kept_then o.kept got.kept (omega arith) (omega arith))
      (side_last o.so_far m.panel now next row col o.there k t)

  pub turned_series : (o : Going series (λ p. p.depth) left at s row col before now here rest sum) → 1 ≤ length rest → {q : Size} {next last : Grid} {exits : Option (List ℕ)}
      → ReadInto (record_at left false here rest) (row + sum.total) col now next (Made q) → ExitsIn now (row + sum.total) sum.first exits
      → Linked exits (row + sum.total) col q.width next last → {more-sum : Sum} → more-sum ≡ more sum q.width q.depth
      → {past : Stretch} → Past rest here left past → Going series (λ p. p.depth) left at s row col before last past.at past.bytes.now more-sum
  turned_series o some {q} {next} {last} {exits} got out link {more-sum} sum_more {past} behind =
      let m = told_made _ q got.answer in
      let ps = o.so_far in
      let d : sum.total ≡ (joined series ps).depth = ap (λ (z : Sum). z.total) o.sum_is in
      let f : sum.first ≡ first_own series ps = ap (λ (z : Sum). z.first) o.sum_is in
      let wide : q.width ≡ m.panel.width = ap (λ (z : Size). z.width) m.size in
      let k : Kept (row + (joined series ps).depth) col now next = rw d at got.kept in
      let t = rw d at (got.there m.panel m.is) in
      let outs = rw (d, f) at out in
      let link' : Linked exits (row + (joined series ps).depth) col m.panel.width next last = rw (d, wide) at link in
      gone_on o some series_adds m.is (sum_more ∙ ap (λ (z : Size). more sum z.width z.depth) m.size) behind
      (kept_then o.kept (kept_then got.kept (kept_row link.row_alone) (omega arith) (omega arith)) (omega arith) (omega arith))
      (series_last ps m.panel now next last exits row col (every_rowed o.fair) o.there k t outs link')

-- ---- what is made is small
pub record Small (q : Size) : Type 0 where
  pub wide : q.width ≤ 64
  pub deep : q.depth ≤ 36

pub small : (left at : ℕ) (outermost : Bool) (s : List ℕ) (q : Size) → Made q ≡ told (record_at left outermost at s) → Small q
small left at outermost s q e =
    let m = told_made _ q e in
    let f = record_fair left outermost at s m.panel m.is in
    record { wide = omega (arith, ap (λ (a : Size). a.width) m.size, f.within.wide); deep = omega (arith, ap (λ (a : Size). a.depth) m.size, f.within.deep) }

pub if_small : (s : List ℕ) (r : Result Size Rattle.designs.specs.declared.Fault.Fault) → judged_by r ≡ told (design_of s) → IfOk r (λ q. (q.width ≤ 64) × (q.depth ≤ 36))
unfolding design_of
if_small s (Ok q) e = let o = small 8 0 true s q e in (o.wide, o.deep)
if_small s (Err x) e = tt
