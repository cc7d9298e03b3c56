-- `records::field_of_two` meets its contract: two bytes spell a field of two. Assumes nothing.
use native.Mathlib.Omega.{arith}
use Rattle.records.proofs.Fields.{spelt_two}
use Rattle.records.proofs.field_of_two.Goals as goal

pub returns : goal.returns
returns c = rw (← c.behind-field.ensures) (omega (arith, spelt_two c.behind-field.result.now))
