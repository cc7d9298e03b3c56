-- Histories over one feed sheet (02, P3): a list of calls from an opening, the same sheet lent to each, refused calls among them.
-- Definitions only. Assumes nothing.
use Rattle.std.specs.Prelude.{ℕ, List, []}
use Rattle.moves.specs.Answer.{values_of}
use Rattle.promise.specs.History.{Call, enter, turn, After, entry_of, deal_of, calls_by}
use Rattle.feeds.specs.declared.FeedRun.{FeedRun}
use Rattle.feeds.specs.Feeds.{feed_open_of, feed_enter_of, feed_turn_of}

-- one call
unfoldable pub feed_call_of : List ℕ → FeedRun → Call → After FeedRun
feed_call_of sheet x (enter t v) =
    let e = feed_enter_of sheet x t v in
    record { run = e.run; entries = entry_of e.refusal v; deals = [] }
feed_call_of sheet x (turn t) =
    let m = feed_turn_of sheet x t in
    record { run = m.run; entries = []; deals = deal_of t (values_of m.answer) }

-- calls from the opening of width w and depth d
unfoldable pub feed_history : ℕ → ℕ → List ℕ → List Call → After FeedRun
feed_history w d sheet calls = calls_by (feed_call_of sheet) (feed_open_of w d sheet).run calls
