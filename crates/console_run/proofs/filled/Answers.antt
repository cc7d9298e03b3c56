-- `console_run::filled` meets its contract: what it was called with did as it may. Assumes nothing.
use Rattle.std.proofs.Common.{refl}
use Rattle.std.specs.Fn.{FnOnceReturnsAtMut}
use Rattle.console_run.proofs.Calls.{numbers_filled}
use Rattle.console_run.proofs.filled.Goals as goal

pub returns : goal.returns
returns g c =
    numbers_filled (FnOnceReturnsAtMut g.F.FnOnce c.args.fill) c.room-room.ensures c.buffer-buffer.ensures
    (record { shown = _; shows = refl; left = _; met = c.fill-done.ensures; leaves = refl })
    (rw (← c.number_in.ensures, ← c.unwrap_or-filled.ensures) c.put_numbers.ensures)
