-- Laws of a design's whole text. In order: the most bytes; what the reader answers gives the text. Assumes nothing.
use Prim.Native.Nat.{ℕ, ◌+◌, ◌^◌, ◌≤◌, ◌<◌}
use mathlib.Core.Path.{◌≡◌, refl, sym, ap, ◌∙◌}
use Rattle.std.proofs.Common.{Result, Ok, Err}
use mathlib.Core.List.{List, ◌++◌}
use native.Mathlib.Omega.{arith}
use native.Mathlib.Nat.{mul-le-mul}
use lib.ListN.{length, take, drop, length-append}
use lib.Seq.{take-append-le, take_all}
use borrow.Author.Tests.{le-ltb}
use Rattle.order.specs.Order.{first_of, over, number_of}
use Rattle.order.proofs.Numbers.{number_some}
use Rattle.network.proofs.Rows.{length_rows}
use Rattle.designs.specs.Panels.{Panel, feed_length, feed_sheet}
use Rattle.designs.specs.Leaves.{Read, refused, made}
use Rattle.designs.specs.Designs.{design_of}
use Rattle.feed_sheet.proofs.Sheet.{Within}
use Rattle.designs.proofs.Fair.{design_fair}
use Rattle.designs.specs.declared.Fault.{Fault as FaultRead}
use Rattle.panels.specs.declared.Panel.{Panel as PanelRead}
use Rattle.panels.specs.Answers.{Answer, answer_by, room_no, answer_of, sheet_after, DesignRead}
use Rattle.text.specs.Text.{letters, Puts}
use Rattle.text.proofs.Numbers.{length_decimal}
use Rattle.panel_text.specs.Panel.{two_line, refused_text, sheet_text, text_of, panel_of}
use Rattle.panel_text.proofs.Places.{length_places}
use Rattle.panel_text.proofs.Refused.{Numbered, design_numbered}

-- ---- the most bytes: 37 rows of 64 places
length_two : (word : List ℕ) (a b : ℕ) → length (two_line word a b) ≤ length word + 42
unfolding two_line letters
length_two word a b = simp length-append (omega (arith, length_decimal a, length_decimal b))

length_feed : (p : Panel) → length (feed_sheet p) ≡ feed_length p
unfolding feed_sheet
length_feed p = length_rows p.place p.width (p.depth + 1)

few_places : (p : Panel) → Within p.width p.depth → feed_length p ≤ 2368
few_places p f = mul-le-mul {n₁ = p.depth + 1} {m₁ = p.width} {n₂ = 37} {m₂ = 64} (omega (arith, f.deep)) f.wide

text_most : (x : Read) → ((p : Panel) → x ≡ made p → Within p.width p.depth) → length (text_of x) ≤ 50000
unfolding text_of refused_text sheet_text letters
text_most (refused x) fair = omega (arith, length_two (letters "refused ") x.refusal x.offset)
text_most (made p) fair =
    simp length-append
    (omega (arith, length_two (letters "panel ") p.width p.depth, length_places p.width 0 (feed_sheet p), length_feed p, few_places p (fair p refl)))

pub panel_most : (s : List ℕ) → length (panel_of s) ≤ 50000
unfolding panel_of
panel_most s = text_most (design_of s) (λ p h. (design_fair s p h).within)

pub panel_few : (s : List ℕ) → length (panel_of s) < 2 ^ 64
panel_few s = omega (arith, panel_most s)

-- ---- what the reader answers, with room for every feed sheet
room_is : (p : Panel) (room : ℕ) → feed_length p ≤ room → room_no p.width p.depth room ≡ 0
unfolding room_no first_of
room_is p room h = rw (le-ltb _ _ h)

taken : (p : Panel) (rest : List ℕ) → take (feed_length p) (feed_sheet p ++ rest) ≡ feed_sheet p
taken p rest =
    take-append-le (feed_length p) (feed_sheet p) rest (omega (arith, length_feed p)) ∙ take_all (feed_length p) (feed_sheet p) (omega (arith, length_feed p))

-- a panel that is read is the design's, and its feed sheet stands in front of the sheet
pub record Shown (x : Read) (p : PanelRead) (after : List ℕ) : Type 0 where
  pub text : text_of x ≡ sheet_text p.width p.depth (take p.filled after)
  pub within : p.filled ≤ length after
  pub some : 1 ≤ p.width

module _ (before after : List ℕ) (room : length before ≡ 2368) where
  shown : (p : PanelRead) (x : Read) → ((q : Panel) → x ≡ made q → Within q.width q.depth) → Numbered x → answer_by (Ok p) ≡ answer_of x (length before)
      → after ≡ sheet_after x before → Shown x p after
  unfolding answer_of sheet_after text_of
  shown p (refused x) fair numbered e f = absurd (numbered x refl (sym (ap (λ (a : Answer). a.refusal) e)))
  shown p (made q) fair numbered e f =
      let f' = fair q refl in
      let zero-no = room_is q (length before) (rw room (few_places q f')) in
      let is : answer_by (Ok p) ≡ record { refusal = 0; offset = 0; present = 0; width = q.width; depth = q.depth; filled = feed_length q } = rw zero-no at e in
      let wide : p.width ≡ q.width = ap (λ (a : Answer). a.width) is in
      let deep : p.depth ≡ q.depth = ap (λ (a : Answer). a.depth) is in
      let long : p.filled ≡ feed_length q = ap (λ (a : Answer). a.filled) is in
      let filled : after ≡ over (feed_sheet q) before = rw zero-no at f in
      record {
        text = rw (wide, deep, long, filled, taken q (drop (length (feed_sheet q)) before)) refl;
        within = rw (long, filled, length-append (feed_sheet q) (drop (length (feed_sheet q)) before)) (omega (arith, length_feed q));
        some = omega (arith, f'.some);
      }

  told : (y : FaultRead) (x : Read) → ((q : Panel) → x ≡ made q → Within q.width q.depth) → answer_by (Err y) ≡ answer_of x (length before)
      → text_of x ≡ refused_text (number_of y.refusal) y.offset
  unfolding answer_of text_of
  told y (refused x) fair e =
      let number : number_of y.refusal ≡ x.refusal = ap (λ (a : Answer). a.refusal) e in
      let offset : y.offset ≡ x.offset = ap (λ (a : Answer). a.offset) e in
      rw (number, offset) refl
  told y (made q) fair e =
      let zero-no = room_is q (length before) (rw room (few_places q (fair q refl))) in
      let is : answer_by (Err y) ≡ record { refusal = 0; offset = 0; present = 0; width = q.width; depth = q.depth; filled = feed_length q } = rw zero-no at e in
      absurd (number_some y.refusal (ap (λ (a : Answer). a.refusal) is))

module _ {s before after : List ℕ} {r : Result PanelRead FaultRead} (room : length before ≡ 2368) (read : DesignRead s before after (answer_by r)) where
  module _ {p : PanelRead} (is : r ≡ Ok p) where
    pub shown_design : Shown (design_of s) p after
    shown_design = shown before after room p (design_of s) (λ q h. (design_fair s q h).within) (design_numbered s) (rw is at read.answer) read.sheet

    pub sheet_puts : {out out' : List ℕ} {next : ℕ} → Puts (sheet_text p.width p.depth (take p.filled after)) 0 out next out' → Puts (panel_of s) 0 out next out'
    unfolding panel_of
    sheet_puts p = rw shown_design.text p

  pub fault_puts : {x : FaultRead} → r ≡ Err x → {out out' : List ℕ} {next : ℕ} → Puts (refused_text (number_of x.refusal) x.offset) 0 out next out' → Puts (panel_of s) 0 out next out'
  unfolding panel_of
  fault_puts {x} is p = rw (told before after room x (design_of s) (λ q h. (design_fair s q h).within) (rw is at read.answer)) p
