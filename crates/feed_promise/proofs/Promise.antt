-- What is promised of every history over one feed sheet: `at_rest`, `only_entries`, `none_lost`, `own_turns`. Assumes nothing.
use Prim.Native.Nat.{ℕ, ◌/◌, ◌<◌}
use mathlib.Core.Path.{◌≡◌, sym, ap, ◌∙◌}
use mathlib.Core.Bool.{true}
use mathlib.Core.List.{List, ◌∷◌}
use native.Mathlib.Omega.{arith}
use borrow.Author.Tests.{eq-eqb}
use Rattle.rest.specs.Flow.{flow}
use Rattle.rest.proofs.Flow.{csum_ext, flow_ext}
use Rattle.moves.specs.Enter.{enter_no, enter_with}
use Rattle.promise.specs.History.{enter}
use Rattle.promise.proofs.Boards.{rest_counts_lem}
use Rattle.promise.proofs.Pace.{paced_own}
use Rattle.feed_sheet.specs.Sheet.{fed_at, feed_no}
use Rattle.feeds.specs.declared.FeedRun.{FeedRun}
use Rattle.feeds.specs.Feeds.{feed_enter_of, lent_no}
use Rattle.feed_promise.specs.History.{feed_history}
use Rattle.feed_promise.specs.Promise.{rest_counts, AtRest, OnlyEntries, NoneLost, OwnTurns}
use Rattle.feed_promise.proofs.Feeds.{layered, Good, lent, feed_calls, history_good, history_reached}

pub at_rest : AtRest
unfolding rest_counts
at_rest = record {
  holds = λ w d sheet calls ok none i l.
      rest_counts_lem w d (fed_at w sheet) (fed_at w sheet d) (layered w d sheet ok) (history_reached w d sheet ok calls) none i l;
}

-- as many entries on each wire, the same counts
same_entries : (w d : ℕ) (sheet : List ℕ) (x y : ℕ → ℕ) → ((v : ℕ) → v < w → x v ≡ y v)
    → (i : ℕ) → rest_counts w d sheet x i ≡ rest_counts w d sheet y i
unfolding rest_counts
same_entries w d sheet x y h i =
    csum_ext w (fed_at w sheet d) (flow w cell x d) (flow w cell y d) i (λ v l. flow_ext w cell x y h d v l)
  where
    cell : ℕ → ℕ → ℕ
    cell L v = fed_at w sheet L v / 2

pub only_entries : OnlyEntries
only_entries = record {
  holds = λ w d sheet calls others ok none also same i l.
      at_rest.holds w d sheet calls ok none i l
      ∙ same_entries w d sheet _ _ same i
      ∙ sym (at_rest.holds w d sheet others ok also i l);
}

pub none_lost : NoneLost
none_lost = record {
  holds = λ w d sheet calls ok.
      let k = (history_reached w d sheet ok calls).kept.balanced in
      record { adds = k.total; at_rest = λ none. omega (arith, k.total); entered = k.entries };
}

-- an entry that is not refused is one that the board takes
taken : (w d : ℕ) (sheet : List ℕ) (ok : feed_no w d sheet ≡ 0) (x : FeedRun) → Good w d sheet ok x → (t v : ℕ)
    → (feed_enter_of sheet x t v).refusal ≡ 0 → enter_no true w x.board t v ≡ 0
unfolding feed_enter_of enter_with
taken w d sheet ok x g t v h = rw (eq-eqb (lent_no x sheet) 0 (lent w d sheet ok x g), g.is_sound, g.width) at h

pub own_turns : OwnTurns
own_turns = record {
  holds = λ w d sheet before t v calls ok entered.
      let x = (feed_history w d sheet before).run in
      let g = history_good w d sheet ok before in
      rw (ap (λ y. y.deals) (feed_calls w d sheet ok (enter t v ∷ calls) x g).1)
      (paced_own (layered w d sheet ok) (history_reached w d sheet ok before) t v calls (taken w d sheet ok x g t v entered));
}
