-- `console_bytes::record_calls::run` meets its contract. Assumes nothing.
use Rattle.console_bytes.proofs.Calls.{run_answered}
use Rattle.console_bytes.proofs.record_calls.run.Goals as goal

pub returns : goal.returns
returns c = run_answered c.word.ensures c.hex-count.ensures c.room-room.ensures c.bytes-buffer.ensures c.run-outcome.ensures c.put_outcome.ensures
