-- `console_lists::read_entries` meets its contract. The invariant: the parts that are left decide whether all are entries, and what
-- has entered stays. Assumes nothing.
use mathlib.Core.Path.{◌≡◌}
use native.Mathlib.Omega.{arith}
use Prim.Native.Nat.{◌<◌}
use Rattle.std.proofs.Common.{rules, tests, eqb, length, get_or}
use Rattle.std.proofs.lemmas.Iterator.Consumers.{YieldsList-at, YieldsList-turn, YieldsList-end}
use Rattle.std.proofs.lemmas.Iterator.Splits.{YieldsList-from_slice_split}
use Rattle.std.proofs.lemmas.List.{length_push}
use Rattle.console_lines.specs.Marked.{parts_of}
use Rattle.console_lists.proofs.Lists.{left_none, left_more, left_all}
use Rattle.console_lists.proofs.read_entries.Goals as goal
use Rattle.console_lists.proofs.read_entries.Goals.{In-Some}

-- the part of this turn is the next one
turn : (c : In-Some) → (length c.loop-part.yielded < length (parts_of 44 c.args.text.now)) × (c.in-Some.part.now ≡ get_or (parts_of 44 c.args.text.now) (length c.loop-part.yielded) c.in-Some.part.now)
turn c =
    YieldsList-turn
    (YieldsList-at c.into_iter-part-iterator.ensures.into_iter_gives (YieldsList-from_slice_split _ (λ glyph. eqb glyph 44) c.args.text.now c.split-part-items.ensures.rest c.split-part-items.ensures.done c.split-part-items.ensures.closure (λ x b q k. search (rules, tests))))
    c.loop-part.yielded _ c.loop-part.yielded_by _ _ c.in-Some.part c.in-Some.is c.next.ensures.steps

pub returns-in_default-clause-is_one : goal.returns-in_default-clause-is_one
returns-in_default-clause-is_one c =
    left_none _ _ _ _ c.loop-part.invariant.decides _ (turn (goal.at.returns-in_default-clause-is_one c).In-Some) c.in_default.ensures.next

pub loop-part-preserved : goal.loop-part-preserved
loop-part-preserved c =
    record {
      decides = rw length_push (left_more _ _ _ _ c.loop-part.invariant.decides _ _ (turn (goal.at.loop-part-preserved c).In-Some) c.in-Some-entry.ensures.next);
      entered = search rules;
    }

pub returns-clause-is_one : goal.returns-clause-is_one
returns-clause-is_one c =
    let end =
    YieldsList-end
    (YieldsList-at c.into_iter-part-iterator.ensures.into_iter_gives (YieldsList-from_slice_split _ (λ glyph. eqb glyph 44) c.args.text.now c.split-part-items.ensures.rest c.split-part-items.ensures.done c.split-part-items.ensures.closure (λ x b q k. search (rules, tests))))
    c.loop-part.yielded _ c.loop-part.yielded_by _ _ c.in-None.is c.next.ensures.steps in
    left_all _ _ _ _ c.loop-part.invariant.decides (omega (arith, end.1))
