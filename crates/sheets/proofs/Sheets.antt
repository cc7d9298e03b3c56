-- Laws of the sheet and the view: what holds where nothing is refused, that a view is empty exactly when it is refused, and how long a part
-- is. Assumes nothing.
use mathlib.Core.Path.{◌≡◌, refl, sym, ap, ◌∙◌}
use mathlib.Core.Bool.{true, false}
use mathlib.Core.List.{List, []}
use mathlib.Core.Logic.{◌↔◌}
use Prim.Native.Nat.{ℕ, ◌+◌, ◌-◌, ◌*◌, ◌<◌, ◌≤◌}
use native.Mathlib.Nat.{le_trans}
use native.Mathlib.Omega.{arith}
use lib.ListN.{length, take, drop, length-drop}
use lib.Seq.{length-take-le}
use borrow.Author.Tests.{eq-eqb, ne_eqb}
use Rattle.std.proofs.Common.{Result, Ok, Err}
use Rattle.std.specs.Result.{is_err}
use Rattle.std.proofs.lemmas.Bool.Decides.{nat_tests}
use Rattle.order.specs.declared.Refusal.{Refusal}
use Rattle.order.specs.Order.{first_of, refused_by}
use Rattle.network.specs.Widths.{width_ok, depth_of}
use Rattle.network.proofs.Widths.{width_some}
use Rattle.network.proofs.Rows.{row_end}
use Rattle.sheets.specs.Sheets.{sheet_length, sheet_no, view_no, ViewIs}

-- ---- an answer that is carried out has no number
pub allowed : {A : Type 0} (r : Result A Refusal) → false ≡ is_err r → refused_by r ≡ 0
allowed (Ok a) h = refl
allowed (Err e) h = cc

-- ---- where nothing is refused
pub sheet_room : (w c n : ℕ) → sheet_no w c n ≡ 0 → sheet_length w c ≤ n
unfolding sheet_no first_of
sheet_room w c n h = grind (arith, nat_tests)

pub record Viewed (w c L n : ℕ) : Type 0 where
  pub width : width_ok w ≡ true
  pub layer : L < depth_of w c
  pub room : sheet_length w c ≤ n

pub viewed : (w c L n : ℕ) → view_no w c L n ≡ 0 → Viewed w c L n
unfolding view_no first_of
viewed w c L n h =
    record { width = grind (arith, nat_tests); layer = grind (arith, nat_tests); room = grind (arith, nat_tests) }

-- the row that is shown lies within the sheet
pub view_within : (w c L n : ℕ) → view_no w c L n ≡ 0 → L * w + w ≤ n
unfolding sheet_length
view_within w c L n h = let v = viewed w c L n h in le_trans (row_end L (depth_of w c) w v.layer) v.room

-- ---- the view is empty exactly when its companion refuses
not_empty : (w : ℕ) (s : List ℕ) → 0 < w → w ≤ length s → take w s ≡ [] → ⊥
not_empty w s p l e = let n : w ≡ 0 = sym (length-take-le w s l) ∙ ap length e in omega arith

pub view_empty : (w c L : ℕ) (sheet row : List ℕ) (at row_at : ℕ × ℕ) → ViewIs w c L sheet at row row_at → (row ≡ []) ↔ (view_no w c L (length sheet) ≡ 0 → ⊥)
view_empty w c L sheet row at row_at v = (
  λ e h.
      let shown : row ≡ take w (drop (L * w) sheet) = rw (eq-eqb _ 0 h) at v.bytes in
      let room : w ≤ length (drop (L * w) sheet) = rw length-drop (omega (arith, view_within w c L (length sheet) h)) in
      not_empty w (drop (L * w) sheet) (width_some w (viewed w c L (length sheet) h).width) room (sym shown ∙ e),
  λ n. rw (ne_eqb _ 0 n) at v.bytes,
)

-- the part of a slice between two places has as many bytes
pub part_long : (n w : ℕ) (s : List ℕ) → n + w ≤ length s → length (take (n + w - n) (drop n s)) ≡ w
part_long n w s l =
    let m : n + w - n ≡ w = omega arith in
    rw m (length-take-le w (drop n s) (rw length-drop (omega arith)))
