-- What reading a design answers, and the lent sheet after it, by what the outermost record comes to. Assumes nothing.
use mathlib.Core.Path.{◌≡◌, sym, ap, ◌∙◌}
use mathlib.Core.List.{List, ◌++◌}
use Prim.Native.Nat.{ℕ, ◌+◌, ◌*◌, ◌<◌, ◌≤◌}
use native.Mathlib.Nat.{zero-add}
use native.Mathlib.Omega.{arith}
use lib.Dec.{ltb}
use lib.ListN.{length, get_or, take, drop}
use lib.Seq.{ext_get_or, get_or-take, length-take-le}
use borrow.Author.Tests.{lt-ltb, le-ltb, eq-eqb, ne_eqb, ltb-false}
use Rattle.order.specs.Order.{first_of}
use Rattle.order.proofs.Order.{cleared}
use Rattle.network.specs.Rows.{tabulate, rows}
use Rattle.network.proofs.Arrays.{length_tabulate, get_d_tabulate}
use Rattle.network.proofs.Rows.{length_rows}
use Rattle.designs.specs.Panels.{feed_sheet}
use Rattle.designs.specs.Leaves.{Fault, fault_of}
use Rattle.designs.specs.Heads.{RefusedAt}
use Rattle.designs.specs.Designs.{design_of}
use Rattle.designs.proofs.Fair.{design_fair, rows_ext}
use Rattle.leaves.specs.declared.Size.{Size}
use Rattle.leaves.specs.declared.grid.Grid.{Grid}
use Rattle.leaves.specs.Grid.{byte_at}
use Rattle.leaves.specs.Told.{Refused, Made, ReadInto}
use Rattle.panels.specs.Answers.{Answer, refusal_of, room_no, answer_of, sheet_after, DesignRead}
use Rattle.panels.proofs.Going.{MadeOf, told_refused, told_made}

-- the first bytes of a row
pub take_row : (a : List ℕ) (n : ℕ) → n ≤ length a → take n a ≡ tabulate (λ v. get_or a v 0) n
take_row a n l =
    let long = length-take-le n a l in
    ext_get_or 0 (take n a) (tabulate (λ v. get_or a v 0) n) (long ∙ sym (length_tabulate _ n))
    (λ v m. get_or-take n a v 0 (omega arith) ∙ sym (get_d_tabulate (λ v. get_or a v 0) n v (omega arith)))

pub room_short : (w d room : ℕ) → room < (d + 1) * w → room_no w d room ≡ 3
unfolding room_no first_of
room_short w d room l = rw (lt-ltb room ((d + 1) * w) l)

pub room_there : (w d room : ℕ) → (d + 1) * w ≤ room → room_no w d room ≡ 0
unfolding room_no first_of
room_there w d room l = rw (le-ltb room ((d + 1) * w) l)

pub room_enough : (w d room : ℕ) → room_no w d room ≡ 0 → (d + 1) * w ≤ room
unfolding room_no
room_enough w d room h = ltb-false room ((d + 1) * w) (cleared (ltb room ((d + 1) * w)) 2 _ h).fails

-- ---- as the reader tells it
abbrev pub read_of : Size → Answer
read_of q = record { refusal = 0; offset = 0; present = 0; width = q.width; depth = q.depth; filled = (q.depth + 1) * q.width }

pub not_read : (s sheet : List ℕ) {before grid : Grid} {f : Fault} → ReadInto (design_of s) 0 0 before grid (Refused f) → DesignRead s sheet sheet (refusal_of f)
unfolding answer_of sheet_after
not_read s sheet {f = f} o = let is = told_refused (design_of s) f o.answer in record { answer = rw is; sheet = rw is }

module _ (s sheet : List ℕ) {before grid : Grid} {q : Size} (o : ReadInto (design_of s) 0 0 before grid (Made q)) where
  told : MadeOf (design_of s) q
  told = told_made (design_of s) q o.answer

  pub no_room : (x : Rattle.designs.specs.declared.Fault.Fault) → RefusedAt 0 (room_no q.width q.depth (length sheet)) x → DesignRead s sheet sheet (refusal_of (fault_of x))
  unfolding answer_of sheet_after
  no_room x r =
      let p = told.panel in
      let o : RefusedAt 0 (room_no p.width p.depth (length sheet)) x = rw told.size at r in
      record { answer = rw (told.is, ne_eqb _ 0 o.some) (ap refusal_of o.told); sheet = rw (told.is, ne_eqb _ 0 o.some) }

  pub was_read : room_no q.width q.depth (length sheet) ≡ 0 → {next : List ℕ} → next ≡ rows (byte_at grid) q.width (q.depth + 1) ++ drop ((q.depth + 1) * q.width) sheet
      → DesignRead s sheet next (read_of q)
  unfolding answer_of sheet_after feed_sheet
  was_read z {next} put =
      let p = told.panel in
      let f = design_fair s p told.is in
      let room : room_no p.width p.depth (length sheet) ≡ 0 = rw told.size at z in
      let holds = o.there p told.is (omega (arith, f.within.deep)) (omega (arith, f.within.wide)) in
      let same : rows (byte_at grid) p.width (p.depth + 1) ≡ rows p.place p.width (p.depth + 1)
      = rows_ext (byte_at grid) p.place p.width (p.depth + 1) (λ L l v m. simp zero-add at (holds L v (omega arith) m)) in
      let long = length_rows p.place p.width (p.depth + 1) in
      record { answer = rw (told.is, eq-eqb _ 0 room) (ap read_of told.size); sheet = rw (told.is, eq-eqb _ 0 room, long, ← same) (rw told.size at put) }
