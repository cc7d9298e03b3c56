-- The reports so far, in a buffer with room for those of any schedule. Definitions only. Assumes nothing.
use Rattle.std.specs.Prelude.{ℕ, List, take}
use Rattle.schedule.specs.declared.Reports.TheInside.{Inside}

-- the bytes that are filled
abbrev pub reports_in : Inside → List ℕ
reports_in r = take r.filled r.buffer
