-- `console_panel::panel` meets its contract: what was read, called and put. Assumes nothing.
use Rattle.panels.specs.Answers.{answer_by}
use Rattle.console_panel.proofs.panel.Goals as goal

pub returns : goal.returns
returns c = record {
  bytes = c.hex-count.new.out;
  count = c.hex-count.result;
  answer = answer_by c.read-answer.result;
  lent = c.read-answer.new.sheet;
  spelt = rw c.word.ensures at c.hex-count.ensures;
  called = rw (c.bytes-buffer.ensures, c.room-room.ensures.is) at c.read-answer.ensures;
  puts = c.put_answer.ensures;
}
