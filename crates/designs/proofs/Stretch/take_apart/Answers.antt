-- `designs::Stretch::take_apart` meets its contract: a record that is not refused lies within the bytes. Assumes nothing.
use Rattle.std.proofs.Common.{◌-◌, drop, arith, rules, refl, sym, ◌∙◌, length-drop}
use lib.Seq.{length-take-le}
use Rattle.designs.specs.Records.{behind}
use Rattle.designs.proofs.Heads.{Whole, headed, passed}
use Rattle.designs.proofs.Stretch.take_apart.Goals.{In_ok-map_err}
use Rattle.designs.proofs.Stretch.take_apart.Goals as goal

whole : (c : In_ok-map_err) → Whole c.args.self.left c.args.self.bytes.now
whole c = headed c.args.self.left c.args.outermost _ (sym c.check_head.ensures ∙ passed _ (search rules))

pub slice_bounds-inner-count : goal.slice_bounds-inner-count
slice_bounds-inner-count c = omega (arith, (whole (goal.at.slice_bounds-inner-count c).In_ok-map_err).head, c.field_of_two-size.ensures)

pub slice_bounds-inner-start : goal.slice_bounds-inner-start
slice_bounds-inner-start c = omega (arith, (whole (goal.at.slice_bounds-inner-start c).In_ok-map_err).head, c.field_of_two-size.ensures)

pub slice_bounds-inner-end : goal.slice_bounds-inner-end
slice_bounds-inner-end c = omega (arith, (whole (goal.at.slice_bounds-inner-end c).In_ok-map_err).body, c.field_of_two-size.ensures)

pub overflow_sub-inner : goal.overflow_sub-inner
overflow_sub-inner c = (whole (goal.at.overflow_sub-inner c).In_ok-map_err).deep

pub returns : goal.returns
unfolding behind
returns c =
    let w = whole (goal.at.returns c).In_ok-map_err in
    record {
      whole = sym c.check_head.ensures ∙ passed _ (search rules);
      kind_is = c.kind_of.ensures w.known;
      body = rw c.field_of_two-size.ensures;
      at_is = refl;
      nested = omega (arith, w.deep);
      short = omega (arith, length-take-le (c.field_of_two-size.result - 4) (drop 4 c.args.self.bytes.now) (simp length-drop (omega (arith, w.body, c.field_of_two-size.ensures))), w.head, c.field_of_two-size.ensures, c.field_of_two-size.type_inv);
    }
