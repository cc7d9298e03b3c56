-- `console_lines::parts::part` meets its contract. Assumes nothing.
use mathlib.Core.Path.{◌≡◌, refl, ap, ◌∙◌}
use mathlib.Core.List.{List, []}
use Prim.Native.Nat.{ℕ}
use Rattle.std.proofs.Common.{rules, tests, eqb, Bor, Option, Some, None, unwrap_or}
use Rattle.std.specs.Option.{option_map}
use Rattle.std.proofs.lemmas.Iterator.Consumers.{nth_from_yields_List}
use Rattle.std.proofs.lemmas.Iterator.Splits.{YieldsList-from_slice_split}
use Rattle.std.proofs.lemmas.Option.{unwrap_or-slice_get}
use Rattle.console_lines.specs.Marked.{parts_of, part_at}
use Rattle.console_lines.proofs.parts.part.Goals as goal

now_or : (part : Option (Bor (List ℕ))) (none : Bor (List ℕ)) → (unwrap_or part none).now ≡ unwrap_or (option_map (λ (x : Bor (List ℕ)). x.now) part) none.now
now_or None none = refl
now_or (Some x) none = refl

pub returns : goal.returns
unfolding part_at
returns c =
    let mark = c.args.mark in
    let text = c.args.text.now in
    let found = nth_from_yields_List c.nth.result _ c.args.k c.nth.ensures.ran (YieldsList-from_slice_split _ (λ glyph. eqb glyph mark) text c.split.ensures.rest c.split.ensures.done c.split.ensures.closure (λ x b q k. search (rules, tests))) in
    rw c.unwrap_or.ensures (now_or c.nth.result _ ∙ ap (λ (part : Option (List ℕ)). unwrap_or part []) found ∙ unwrap_or-slice_get (parts_of mark text) c.args.k [])
