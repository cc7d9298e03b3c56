-- `console_lists::toggle` meets its contract. Assumes nothing.
use Rattle.console_lists.proofs.Judged.{some_index}
use Rattle.console_lists.proofs.toggle.Goals as goal

pub returns : goal.returns
returns c = some_index _ _ _ c.in_ok-at.ensures
