-- `listing_text::put_if_room` meets its contract: the first text is put for its length alone, the second where there is room.
-- Assumes nothing.
use Rattle.listing_text.proofs.Whole.{text_wanted, lists_none, lists_all}
use Rattle.listing_text.proofs.put_if_room.Goals as goal

pub returns-then-out-wanted : goal.returns-then-out-wanted
returns-then-out-wanted g c = λ text few puts. lists_none text _ _ (text_wanted few (puts _ _ _ c.put-wanted.ensures)) c.if-out-wanted.true

pub returns : goal.returns
returns g c = λ text few puts. lists_all text _ _ (text_wanted few (puts _ _ _ c.put-wanted.ensures)) few _ c.if-out-wanted.false (puts _ _ _ c.put.ensures).buffer
