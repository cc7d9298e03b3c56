-- The run over a feed sheet after a line that is a call, and the line that answers it. Definitions only. Assumes nothing.
use Rattle.std.specs.Prelude.{ℕ, List, ◌++◌}
use Rattle.text.specs.Text.{letters, Puts}
use Rattle.text.specs.Numbers.{decimal}
use Rattle.feeds.specs.declared.FeedRun.{FeedRun}
use Rattle.feeds.specs.Feeds.{feed_open_of, feed_enter_of, feed_turn_of}
use Rattle.console_lines.specs.Hex.{HexPut}
use Rattle.console_lines.specs.Words.{word_at, short_at}
use Rattle.console_answers.specs.Answers.{refusal_line}
use Rattle.console_run.specs.Calls.{moved_line}

-- `feed HEX`: the bytes that the word spells, and how many
pub record FeedPut (line sheet : List ℕ) (count : ℕ) (before : List ℕ) (end : ℕ) (after : List ℕ) : Type 0 where
  pub spelt : HexPut (word_at line 1) sheet count
  pub puts : Puts (decimal count ++ letters "\n") 0 before end after

-- `fopen W D`
abbrev pub after_open : List ℕ → List ℕ → FeedRun
after_open line sheet = (feed_open_of (short_at line 1) (short_at line 2) sheet).run

abbrev pub open_line : List ℕ → List ℕ → List ℕ
open_line line sheet = refusal_line (feed_open_of (short_at line 1) (short_at line 2) sheet).refusal

-- `fenter T V`
abbrev pub after_enter : List ℕ → FeedRun → List ℕ → FeedRun
after_enter line run sheet = (feed_enter_of sheet run (short_at line 1) (short_at line 2)).run

abbrev pub enter_line : List ℕ → FeedRun → List ℕ → List ℕ
enter_line line run sheet = refusal_line (feed_enter_of sheet run (short_at line 1) (short_at line 2)).refusal

-- `fturn T`
abbrev pub after_turn : List ℕ → FeedRun → List ℕ → FeedRun
after_turn line run sheet = (feed_turn_of sheet run (short_at line 1)).run

abbrev pub turn_line : List ℕ → FeedRun → List ℕ → List ℕ
turn_line line run sheet = moved_line (feed_turn_of sheet run (short_at line 1)).answer
