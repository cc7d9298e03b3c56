-- Designs and runs (02, P3): what the reader writes, a run call takes, and it runs the panel that the design says. So all that is
-- promised over feed sheets (feed_promise) is promised over designs. The statement only; the proof is `fitted` of proofs/Fitted.
-- Assumes nothing.
use Rattle.std.specs.Prelude.{◌≡◌, List, ◌++◌, ℕ, ◌<◌, ◌≤◌}
use Rattle.feed_sheet.specs.Sheet.{fed_at, feed_no}
use Rattle.designs.specs.Panels.{Panel, feed_sheet}
use Rattle.designs.specs.Leaves.{made}
use Rattle.designs.specs.Designs.{design_of}

-- the feed sheet of panel p, with further bytes behind it
pub record Serves (p : Panel) (further : List ℕ) : Type 0 where
  -- it is not refused
  pub taken : feed_no p.width p.depth (feed_sheet p ++ further) ≡ 0
  -- it sends each wire where the panel does
  pub fed : (L v : ℕ) → L ≤ p.depth → v < p.width → fed_at p.width (feed_sheet p ++ further) L v ≡ p.place L v

pub record Fitted : Type 0 where
  pub holds : (design : List ℕ) (p : Panel) (further : List ℕ) → design_of design ≡ made p → Serves p further
