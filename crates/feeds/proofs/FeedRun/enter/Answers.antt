-- `feeds::FeedRun::enter` meets its contract: a sound run has room in its count of entries. Assumes nothing.
use Rattle.feeds.proofs.Keeps.{judged_sound, few_entered}
use Rattle.feeds.proofs.FeedRun.enter.Goals as goal

pub enter-entered-requires : goal.enter-entered-requires
enter-entered-requires c = few_entered _ (judged_sound _ _ c.in_default.ensures)
