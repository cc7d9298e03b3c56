-- What the design reader writes, a run call takes: `fitted`. In order: a row of a sheet; the judge.
-- Assumes nothing.
use mathlib.Core.Path.{◌≡◌, sym, ap, ◌∙◌}
use mathlib.Core.Bool.{true, false, and-false}
use mathlib.Core.List.{List, ◌++◌, append_assoc}
use Prim.Native.Nat.{ℕ, zero, suc, ◌+◌, ◌*◌, ◌%◌, ◌<◌, ◌≤◌}
use native.Mathlib.Decide.{ℕ_discrete, dec_lt}
use native.Mathlib.Omega.{arith}
use lib.ListN.{length, get_or, length-append}
use lib.Seq.{take_at, drop_at}
use borrow.Author.Tests.{le-leb, le-ltb, ne_eqb}
use Rattle.order.specs.Order.{first_of}
use Rattle.network.specs.Rows.{tabulate, rows}
use Rattle.network.proofs.Arrays.{length_tabulate, get_d_tabulate}
use Rattle.network.proofs.Rows.{length_rows}
use Rattle.feed_sheet.specs.Limits.{in_limits}
use Rattle.feed_sheet.specs.Sheet.{unpaired, row_at, feed_no}
use Rattle.feed_sheet.proofs.Permutations.{once_permutation}
use Rattle.feed_sheet.proofs.Sheet.{Within, rows_each, judged, row_at_lem}
use Rattle.designs.specs.Panels.{Panel, feed_sheet}
use Rattle.designs.proofs.Fair.{Fair, design_fair}
use Rattle.fitted.specs.Fitted.{Serves, Fitted}

-- ---- row L of the rows one after another
rows_row : (f : ℕ → ℕ → ℕ) (w n : ℕ) (further : List ℕ) (L : ℕ) → L < n → row_at w (rows f w n ++ further) L ≡ tabulate (f L) w
unfolding rows
rows_row f w zero further L l = absurd (omega arith)
rows_row f w (suc n) further L l = elim (ℕ_discrete L n) [
  | yes e ↦ rw (
    e,
    append_assoc (rows f w n) (tabulate (f n) w) further,
    drop_at (rows f w n) (tabulate (f n) w ++ further) (n * w) (length_rows f w n),
    take_at (tabulate (f n) w) further w (length_tabulate (f n) w),
  )
  | no m ↦ rw (append_assoc (rows f w n) (tabulate (f n) w) further) (rows_row f w n (tabulate (f n) w ++ further) L (omega arith))
]

-- ---- the judge
within_yes : (w d : ℕ) → Within w d → in_limits w d ≡ true
within_yes w d k = rw (le-leb 1 w k.some, le-leb w 64 k.wide, le-leb d 36 k.deep)

paired : (w d : ℕ) → (1 ≤ d → w % 2 ≡ 0) → unpaired w d ≡ false
unfolding unpaired
paired w d even = elim (dec_lt 0 d) [
  | yes l ↦ rw (ne_eqb (w % 2) 1 (λ odd. omega (arith, even l)))
  | no l ↦ rw (le-ltb 0 d (omega arith), and-false)
]

module _ (p : Panel) (fair : Fair p) (further : List ℕ) where
  abbrev sheet : List ℕ
  sheet = feed_sheet p ++ further

  sheet_row : (L : ℕ) → L ≤ p.depth → row_at p.width sheet L ≡ tabulate (p.place L) p.width
  unfolding feed_sheet
  sheet_row L l = rows_row p.place p.width (p.depth + 1) further L (omega arith)

  sheet_long : (p.depth + 1) * p.width ≤ length sheet
  unfolding feed_sheet
  sheet_long = rw length-append (omega (arith, length_rows p.place p.width (p.depth + 1)))

  sheet_taken : feed_no p.width p.depth sheet ≡ 0
  unfolding feed_no first_of
  sheet_taken =
      rw (
        within_yes p.width p.depth fair.within,
        paired p.width p.depth fair.rowed.even,
        le-ltb (length sheet) ((p.depth + 1) * p.width) sheet_long,
        rows_each p.width sheet (p.depth + 1)
            (λ L l. rw (sheet_row L (omega arith)) (once_permutation p.width (p.place L) (fair.rowed.once L (omega arith)))),
      )

  serves : Serves p further
  serves = record {
    taken = sheet_taken;
    fed = λ L v l m.
        sym (row_at_lem (judged p.width p.depth sheet sheet_taken) L l v m)
        ∙ ap (λ row. get_or row v 0) (sheet_row L l)
        ∙ get_d_tabulate (p.place L) p.width v m;
  }

pub fitted : Fitted
fitted = record { holds = λ design p further e. serves p (design_fair design p e) further }
