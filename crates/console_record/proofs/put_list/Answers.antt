-- `console_record::put_list` meets its contract. The invariant: the entries of the members that are left, put where the text has got
-- to, give the whole list. Assumes nothing.
use mathlib.Core.Path.{sym, ◌∙◌}
use Rattle.text.proofs.Lists.{members_none, members_all}
use Rattle.console_record.proofs.Members.{member_shown, member_hidden}
use Rattle.console_record.proofs.put_list.Goals as goal
use Rattle.console_record.proofs.put_list.Goals.{then-is_shown, else-is_shown}

pub loop-index-init : goal.loop-index-init
loop-index-init g c = members_none _ _ _ _ _

pub loop-index-preserved : goal.loop-index-preserved
loop-index-preserved g c =
    elim c.if-is_shown.branch [
      | then-is_shown w ↦
          rw (w.out-is, w.next-is, w.some-is)
          (member_shown c.loop-index.invariant c.loop-index-test.true c.index-members-index.result c.index-members-index.is (sym c.is_shown.ensures ∙ w.if-is_shown.true) w.put_comma-first.ensures w.put-next.ensures)
      | else-is_shown w ↦
          rw (w.out-is, w.next-is, w.some-is)
          (member_hidden c.loop-index.invariant c.loop-index-test.true c.index-members-index.result c.index-members-index.is (sym c.is_shown.ensures ∙ w.if-is_shown.false))
    ]

pub returns : goal.returns
returns g c = members_all c.loop-index.invariant c.loop-index-test.false c.put_dash.ensures
