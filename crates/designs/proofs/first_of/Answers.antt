-- `designs::first_of` meets its contract: none of the rules passed holds. Assumes nothing.
use Rattle.std.proofs.Common.{◌≡◌, Bool, false, cond, map, sym, ◌∙◌, drop, get_or, ◌+◌, ◌<◌, length, ℕ, List}
use Rattle.std.proofs.lemmas.List.{at_drop_more, at_drop_all}
use Rattle.order.specs.declared.Refusal.{Refusal}
use Rattle.order.specs.declared.Refusal.TheVariants.{Width}
use Rattle.order.specs.Order.{number_of, first_of}
use Rattle.designs.specs.Records.{rule_of}
use Rattle.designs.proofs.first_of.Goals as goal

abbrev no_of : List (Bool × Refusal) → ℕ
no_of rules = first_of (map rule_of rules)

turn : (rules : List (Bool × Refusal)) (i : ℕ) → i < length rules
    → no_of (drop i rules) ≡ cond (get_or rules i (false, Width)).0 (number_of (get_or rules i (false, Width)).1) (no_of (drop (i + 1) rules))
unfolding first_of
turn rules i l = at_drop_more no_of rules i (false, Width) l

pub returns-then-when : goal.returns-then-when
returns-then-when c = sym (rw c.if-when.true at (turn c.args.rules.now c.loop-when.when-index c.loop-when-test.true)) ∙ c.loop-when.invariant

pub loop-when-preserved : goal.loop-when-preserved
loop-when-preserved c = sym (rw c.if-when.false at (turn c.args.rules.now c.loop-when.when-index c.loop-when-test.true)) ∙ c.loop-when.invariant

pub returns : goal.returns
unfolding first_of
returns c = sym (at_drop_all no_of c.args.rules.now c.loop-when.when-index c.loop-when-test.false) ∙ c.loop-when.invariant
