-- `console_record::put_list` meets its contract. The invariant: the entries of the members that are left, put where the text has got
-- to, give the whole list. Assumes nothing.
use Rattle.text.proofs.Lists.{Members}
use Rattle.console_record.proofs.put_list.Given as goal

abbrev pub invariant-loop-index : goal.invariant-loop-index
invariant-loop-index g l = Members g.L.Listing.shown g.L.Listing.entry l.members l.at l.initial.out l.next l.some l.index l.out
