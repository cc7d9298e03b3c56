-- Each public contract allows one answer: an equation does, and each record of a contract is made of equations. Assumes nothing.
use Prim.Native.Nat.{ℕ, zero, suc}
use mathlib.Core.Path.{◌≡◌, refl, sym, ap, ◌∙◌}
use mathlib.Core.List.{List, []}
use native.Mathlib.Omega.{arith}
use Rattle.sheets.specs.Sheets.{ViewIs}
use Rattle.sheets.proofs.Sheets.{view_empty}
use Rattle.facts.specs.Answers.{OneAnswer}
use Rattle.panels.proofs.Told.{answer_tells}
use Rattle.listing_text.proofs.Whole.{listed_one}
use Rattle.facts.proofs.Told.{check_told, filled_told, entered_told, turned_told, polled_told, read_told, outcome_told, top_told}

same : {A : Type 0} {a r s : A} → r ≡ a → s ≡ a → r ≡ s
same e f = e ∙ sym f

stable : (n : ℕ) → ((n ≡ 0 → ⊥) → ⊥) → n ≡ 0
stable zero h = refl
stable (suc n) h = absurd (h (λ e. omega arith))

-- a view that shows bytes is not refused, so their place is said
place_one : {w c L : ℕ} {sheet row row' : List ℕ} {at p q : ℕ × ℕ} → ViewIs w c L sheet at row p → ViewIs w c L sheet at row' q → (row ≡ [] → ⊥) → p ≡ q
place_one e f some = let shown = stable _ (λ refused. some ((view_empty _ _ _ _ _ _ _ e).1 refused)) in same (e.there shown) (f.there shown)

pub one_answer : OneAnswer
one_answer =
    record {
      width_ok = λ κs a r s l m e f. (same e f, refl);
      construction_ok = λ κs a r s l m e f. (same e f, refl);
      check_open = λ κs a r s l m e f. (check_told (same e f), refl);
      depth_of = λ κs a r s l m e f. (same e f, refl);
      row = λ κs a r s l m e f. (same e f, refl);
      place_of = λ κs a r s l m e f. (same e f, refl);
      sheet = λ κs a r s l m e f. (filled_told r s (same e.answer f.answer), λ i. (tt, (tt, (same e.bytes f.bytes i, tt))));
      check_view = λ κs a r s l m e f. (check_told (same e f), refl);
      view = λ κs a r s l m e f. ((same e.bytes f.bytes, place_one e f), refl);
      opening = λ κs a r s l m e f. (entered_told (ap (λ x. x.refusal) (same e f)) (ap (λ x. x.run) (same e f)), refl);
      is_sound = λ κs a r s l m e f. (same e f, refl);
      enter = λ κs a r s l m e f. (entered_told (ap (λ x. x.refusal) (same e f)) (ap (λ x. x.run) (same e f)), refl);
      turn = λ κs a r s l m e f. (turned_told (ap (λ x. x.answer) (same e f)) (ap (λ x. x.run) (same e f)), refl);
      gap_list = λ κs a r s l m e f. (filled_told r s (same e.answer f.answer), λ i. (tt, (same e.numbers f.numbers i, tt)));
      read_record = λ κs a r s l m e f. (read_told r s (same e f), refl);
      read_in_schedule = λ κs a r s l m e f. (read_told r s (same e f), refl);
      field_of_two = λ κs a r s l m e f. (same e f, refl);
      field_of_four = λ κs a r s l m e f. (same e f, refl);
      size_of = λ κs a r s l m e f. (same e f, refl);
      write_record = λ κs a r s l m e f. (filled_told r s (same e.answer f.answer), λ i. (tt, (same e.buffer f.buffer i, tt)));
      run = λ κs a r s l m e f. (outcome_told r s (same e.outcome f.outcome), λ i. (tt, (same e.output f.output i, tt)));
      in_limits = λ κs a r s l m e f. (same e f, refl);
      is_unpaired = λ κs a r s l m e f. (same e f, refl);
      is_permutation = λ κs a r s l m e f. (same e f, refl);
      feed_check = λ κs a r s l m e f. (check_told (same e f), refl);
      fed_at = λ κs a r s l m e f. (same e f, refl);
      feed_opening = λ κs a r s l m e f. (entered_told (ap (λ x. x.refusal) (same e f)) (ap (λ x. x.run) (same e f)), refl);
      feed_is_sound = λ κs a r s l m e f. (same e f, refl);
      feed_enter = λ κs a r s l m e f. (entered_told (ap (λ x. x.refusal) (same e f)) (ap (λ x. x.run) (same e f)), refl);
      feed_turn = λ κs a r s l m e f. (turned_told (ap (λ x. x.answer) (same e f)) (ap (λ x. x.run) (same e f)), refl);
      feed_gap_list = λ κs a r s l m e f. (filled_told r s (same e.answer f.answer), λ i. (tt, (same e.numbers f.numbers i, tt)));
      panel = λ κs a r s l m e f. (answer_tells r s (same e.answer f.answer), λ i. (tt, (same e.sheet f.sheet i, tt)));
      dial_opening = λ κs a r s l m e f. (same e f, refl);
      dial_advance = λ κs a r s l m e f. (same e f, refl);
      dial_poll = λ κs a r s l m e f. (same e f, refl);
      highest = λ κs a r s l m e f. (top_told r s (same e f), refl);
      small_opening = λ κs a r s l m e f. (entered_told (ap (λ x. x.refusal) (same e f)) (ap (λ x. x.cabinet) (same e f)), refl);
      small_enter = λ κs a r s l m e f. (entered_told (ap (λ x. x.refusal) (same e f)) (ap (λ x. x.cabinet) (same e f)), refl);
      small_turn = λ κs a r s l m e f. (turned_told (ap (λ x. x.answer) (same e f)) (ap (λ x. x.cabinet) (same e f)), refl);
      small_poll = λ κs a r s l m e f. (polled_told (ap (λ x. x.refusal) (same e f)) (ap (λ x. x.yielded) (same e f)) (ap (λ x. x.cabinet) (same e f)), refl);
      listing = λ κs a r s l m e f. (listed_one r s (same e.answer f.answer), λ i. (tt, (same e.buffer f.buffer i, tt)));
      trace = λ κs a r s l m e f. (listed_one r s (same e.answer f.answer), λ i. (tt, (same e.buffer f.buffer i, tt)));
      panel_text = λ κs a r s l m e f. (listed_one r s (same e.answer f.answer), λ i. (tt, (same e.buffer f.buffer i, tt)));
    }
