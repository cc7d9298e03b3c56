-- `panels::read` meets its contract: the rows of a panel that was made stand in the grid, and they are written where there is room. Assumes nothing.
use Rattle.std.proofs.Common.{arith}
use Rattle.std.proofs.lemmas.Result.{err_from_is_err_and}
use Rattle.panels.proofs.Written.{room_enough, not_read, no_room, was_read}
use Rattle.panels.proofs.read.Goals as goal

pub returns-in_err-size : goal.returns-in_err-size
returns-in_err-size c =
    let p = err_from_is_err_and c.from_residual.result c.from_residual.ensures.1 in
    rw (p.1, p.2) (not_read _ _ c.in_err-size.ensures.outcome)

pub returns-in_err-check_room : goal.returns-in_err-check_room
returns-in_err-check_room c =
    let p = err_from_is_err_and c.from_residual-in_err-check_room.result c.from_residual-in_err-check_room.ensures.1 in
    rw (p.1, p.2) (no_room _ _ c.in_ok-size.ensures.outcome _ c.in_err-check_room.ensures)

pub put_rows-requires : goal.put_rows-requires
put_rows-requires c = let s = c.in_ok-size.ensures.small in (s.0, omega arith, room_enough _ _ _ c.in_ok-check_room.ensures)

pub returns : goal.returns
returns c = rw c.feed_length.ensures (was_read _ _ c.in_ok-size.ensures.outcome c.in_ok-check_room.ensures c.put_rows.ensures)
