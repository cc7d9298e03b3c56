-- `feeds::FeedRun::turn` meets its contract: a sound run is narrow, and has dealt few numbers. Assumes nothing.
use Rattle.order.specs.Order.{first_of}
use Rattle.std.proofs.lemmas.Grind.{common_steps}
use native.Mathlib.Omega.{arith}
use Rattle.feeds.proofs.Keeps.{judged_sound, few_counts, most_width}
use Rattle.feeds.proofs.FeedRun.turn.Goals as goal

pub deal-moved-requires : goal.deal-moved-requires
unfolding first_of
deal-moved-requires c =
    let good = judged_sound _ _ c.in_default.ensures in
    (grind (arith, common_steps), (most_width _ good, few_counts _ good _))
