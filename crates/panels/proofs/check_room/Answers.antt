-- `panels::check_room` meets its contract. Assumes nothing.
use Rattle.std.proofs.Common.{arith}
use Rattle.panels.proofs.Written.{room_short, room_there}
use Rattle.panels.proofs.check_room.Goals as goal

pub returns-then-room-feed_length : goal.returns-then-room-feed_length
returns-then-room-feed_length c = let is = room_short c.args.size.width c.args.size.depth c.args.room (omega arith) in record { some = λ z. omega (arith, is); told = rw is }

pub returns : goal.returns
returns c = room_there _ _ _ (omega arith)
