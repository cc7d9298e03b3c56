-- `designs::check_head` meets its contract: what was read is put back into the definition, and each way out is the first
-- number whose condition holds. Assumes nothing.
use Rattle.order.proofs.Order.{order}
use Rattle.designs.specs.Records.{head_no}
use Rattle.designs.proofs.check_head.Goals as goal

pub returns-then-n-lt4 : goal.returns-then-n-lt4
unfolding head_no
returns-then-n-lt4 c = rw (← c.length_fits-fits.ensures, ← c.field_of_two-size.ensures, ← c.field_of_two-kind.ensures) (search order depth 24)

pub returns-then-not-kind : goal.returns-then-not-kind
unfolding head_no
returns-then-not-kind c = rw (← c.length_fits-fits.ensures, ← c.field_of_two-size.ensures, ← c.field_of_two-kind.ensures) (search order depth 24)

pub returns-then-kind-size : goal.returns-then-kind-size
unfolding head_no
returns-then-kind-size c = rw (← c.length_fits-fits.ensures, ← c.field_of_two-size.ensures, ← c.field_of_two-kind.ensures) (search order depth 24)

pub returns-then-kind-n : goal.returns-then-kind-n
unfolding head_no
returns-then-kind-n c = rw (← c.length_fits-fits.ensures, ← c.field_of_two-size.ensures, ← c.field_of_two-kind.ensures) (search order depth 24)

pub returns-then-not-fits : goal.returns-then-not-fits
unfolding head_no
returns-then-not-fits c = rw (← c.length_fits-fits.ensures, ← c.field_of_two-size.ensures, ← c.field_of_two-kind.ensures) (search order depth 24)

pub returns-then-outermost-size : goal.returns-then-outermost-size
unfolding head_no
returns-then-outermost-size c = rw (← c.length_fits-fits.ensures, ← c.field_of_two-size.ensures, ← c.field_of_two-kind.ensures) (search order depth 24)

pub returns-then-n-size : goal.returns-then-n-size
unfolding head_no
returns-then-n-size c = rw (← c.length_fits-fits.ensures, ← c.field_of_two-size.ensures, ← c.field_of_two-kind.ensures) (search order depth 24)

pub returns-then-left-eq0 : goal.returns-then-left-eq0
unfolding head_no
returns-then-left-eq0 c = rw (← c.length_fits-fits.ensures, ← c.field_of_two-size.ensures, ← c.field_of_two-kind.ensures) (search order depth 24)

pub returns-then-kind-size-2 : goal.returns-then-kind-size-2
unfolding head_no
returns-then-kind-size-2 c = rw (← c.length_fits-fits.ensures, ← c.field_of_two-size.ensures, ← c.field_of_two-kind.ensures) (search order depth 24)

pub returns : goal.returns
unfolding head_no
returns c = rw (← c.length_fits-fits.ensures, ← c.field_of_two-size.ensures, ← c.field_of_two-kind.ensures) (search order depth 24)
