-- `records::field_of_four` meets its contract: past the end there is only 0. Assumes nothing.
use Rattle.std.proofs.Common.{sym}
use Rattle.records.proofs.Fields.{field_past}
use Rattle.records.proofs.field_of_four.Goals as goal

pub returns-then-bytes-at : goal.returns-then-bytes-at
returns-then-bytes-at c = sym (field_past 4 _ _ c.if-bytes-at.true)
