-- Laws of the report lines. In order: a line and those behind it; their most bytes; the loop that puts them. Assumes nothing.
use Prim.Native.Nat.{ℕ, zero, suc, ◌+◌, ◌*◌, ◌/◌, ◌≤◌, ◌<◌}
use mathlib.Core.Path.{◌≡◌, refl, ◌∙◌}
use mathlib.Core.List.{List, ◌++◌}
use native.Mathlib.Omega.{arith}
use lib.ListN.{length, drop, length-append, length-drop}
use lib.Seq.{drop-append-le, take-append-le, drop-append-add}
use Rattle.records.specs.Fields.{field}
use Rattle.text.specs.Text.{letters, Puts}
use Rattle.text.proofs.Text.{Leads, leads_none, leads_on}
use Rattle.text.proofs.Numbers.{length_decimal}
use Rattle.listing_text.specs.Lines.{three, report_lines}

-- ---- the lines
field_front : (n : ℕ) (s t : List ℕ) (at : ℕ) → at + n ≤ length s → field n (s ++ t) at ≡ field n s at
field_front n s t at h = rw (drop-append-le at s t (omega arith), take-append-le n (drop at s) t (simp length-drop (omega arith)))

field_behind : (n : ℕ) (s t : List ℕ) (at from : ℕ) → from ≡ length s + at → field n (s ++ t) from ≡ field n t at
field_behind n s t at from e = rw (e, drop-append-add)

-- the lines of what stands behind
lines_behind : (n : ℕ) (s t : List ℕ) (at from : ℕ) → from ≡ length s + at → report_lines n (s ++ t) from ≡ report_lines n t at
unfolding report_lines
lines_behind zero s t at from e = refl
lines_behind (suc n) s t at from e =
    rw (
      field_behind 2 s t (at + 4) (from + 4) (omega arith),
      field_behind 2 s t (at + 6) (from + 6) (omega arith),
      field_behind 4 s t (at + 8) (from + 8) (omega arith),
      lines_behind n s t (at + 12) (from + 12) (omega arith),
    )

-- a report and those behind it
lines_more : (report rest : List ℕ) → length report ≡ 12 → report_lines (length (report ++ rest) / 12) (report ++ rest) 0
    ≡ three (field 2 report 4) (field 2 report 6) (field 4 report 8) ++ report_lines (length rest / 12) rest 0
unfolding report_lines
lines_more report rest e =
    let n : length (report ++ rest) / 12 ≡ suc (length rest / 12) = rw (length-append report rest, e) (omega arith) in
    rw (
      n,
      field_front 2 report rest 4 (omega arith),
      field_front 2 report rest 6 (omega arith),
      field_front 4 report rest 8 (omega arith),
      lines_behind (length rest / 12) report rest 0 12 (omega arith),
    )

pub length_three : (a b c : ℕ) → (1 ≤ length (three a b c)) × (length (three a b c) ≤ 63)
unfolding three letters
length_three a b c =
    simp length-append (omega (arith, length_decimal a, length_decimal b, length_decimal c), omega (arith, length_decimal a, length_decimal b, length_decimal c))

pub length_lines : (n : ℕ) (reports : List ℕ) (at : ℕ) → (n ≤ length (report_lines n reports at)) × (length (report_lines n reports at) ≤ 63 * n)
unfolding report_lines
length_lines zero reports at = (omega arith, omega arith)
length_lines (suc n) reports at =
    let line = length_three (field 2 reports (at + 4)) (field 2 reports (at + 6)) (field 4 reports (at + 8)) in
    let ih = length_lines n reports (at + 12) in
    rw length-append (omega arith, omega arith)

-- ---- the loop: the bytes of the reports left give the lines still to come
pub record Going (reports : List ℕ) (at : ℕ) (out₀ : List ℕ) (next size : ℕ) (left out : List ℕ) : Type 0 where
  pub whole : size ≡ 12
  pub leads : Leads (report_lines (length left / 12) left 0) (report_lines (length reports / 12) reports 0) at out₀ next out

module _ {reports out₀ out left : List ℕ} {at next size : ℕ} (g : Going reports at out₀ next size left out) where
  pub ends : length left < size → Puts (report_lines (length reports / 12) reports 0) at out₀ next out
  unfolding report_lines
  ends h =
      let none : length left / 12 ≡ 0 = omega (arith, g.whole) in
      leads_none (rw none at g.leads)

  pub goes_on : {size' : ℕ} (report rest : List ℕ) → size' ≡ size → left ≡ report ++ rest → length report ≡ size → {t e n : ℕ} → t ≡ field 2 report 4 → e ≡ field 2 report 6
      → n ≡ field 4 report 8 → {next' : ℕ} {out' : List ℕ} → Puts (three t e n) next out next' out' → Going reports at out₀ next' size' rest out'
  goes_on report rest same cut long token exit number p =
      record {
        whole = same ∙ g.whole;
        leads = leads_on _ (rw (token, exit, number, ← lines_more report rest (long ∙ g.whole), ← cut) g.leads) p;
      }
