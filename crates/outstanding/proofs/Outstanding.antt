-- What the gap list tells of every history: `all_outstanding`, `all_to_come`. A number is missing where the counts say that it was
-- dealt to nobody; the list's length is what the exits are short of their shares of entered; at rest nothing is. Assumes nothing.
use Prim.Native.Nat.{ℕ, ◌+◌, ◌/◌, ◌%◌, ◌≤◌}
use mathlib.Core.Path.{◌≡◌, refl, ◌∙◌}
use mathlib.Core.Bool.{true}
use mathlib.Core.List.{List, [], ◌∷◌, ◌++◌}
use native.Mathlib.Decide.{dec_lt}
use native.Mathlib.Omega.{arith}
use borrow.Author.Tests.{le-leb, leb-true, le-ltb}
use lib.ListN.{length}
use Rattle.order.specs.Order.{first_of}
use Rattle.board.specs.Board.{count_at}
use Rattle.board.specs.Sound.{inside_sum}
use Rattle.run.specs.declared.Run.{Run}
use Rattle.run.specs.Run.{sound}
use Rattle.gaps.specs.Gaps.{missing, gaps_of, gaps_no}
use Rattle.gaps.specs.Missing.{MissingBelow}
use Rattle.gaps.proofs.Gaps.{length_gaps}
use Rattle.gaps.proofs.Missing.{gaps_are}
use Rattle.promise.specs.History.{Call, Deal, After, calls_of, times}
use Rattle.promise.specs.Promise.{Promise}
use Rattle.promise.proofs.Book.{below_yes, below_no, times_append}
use Rattle.promise.proofs.Builds.{builds_fit}
use Rattle.promise.proofs.Reached.{Reached, reached_sound, reached_calls, history_reached}
use Rattle.promise.proofs.Promise.{reached_promise}
use Rattle.outstanding.specs.Outstanding.{Outstanding, AllOutstanding, ToCome, AllToCome}

none_of : (l : List ℕ) → length l ≡ 0 → l ≡ []
none_of [] h = refl
none_of (v ∷ l) h = absurd (omega arith)

module _ (x : Run) (dealt : List Deal) (r : Reached x dealt) where
  -- ---- a number is missing exactly when it was dealt to nobody
  missing→undealt : (v : ℕ) → missing x.width x.board v ≡ true → times v dealt ≡ 0
  unfolding missing
  missing→undealt v h = r.keeping.kept.book v ∙ below_no _ _ (leb-true _ _ h)

  undealt→missing : (v : ℕ) → times v dealt ≡ 0 → missing x.width x.board v ≡ true
  unfolding missing
  undealt→missing v z =
      let c = count_at x.board (v % x.width) in
      elim (dec_lt (v / x.width) c) [
        | yes l ↦ absurd (omega (arith, r.keeping.kept.book v, below_yes (v / x.width) c l))
        | no l ↦ le-leb c (v / x.width) (omega arith)
      ]

  list_is : MissingBelow x.width x.board x.board.entered (gaps_of x.width x.board)
  unfolding gaps_of
  list_is = gaps_are x.width x.board x.board.entered

  long : length (gaps_of x.width x.board) ≡ inside_sum x.board
  unfolding gaps_of
  long =
      length_gaps x.width x.board (builds_fit _ _ r.allowed).some x.board.entered ∙ (reached_promise r).shortfalls

  enough : (n : ℕ) → inside_sum x.board ≤ n → gaps_no (sound x) x.width x.board n ≡ 0
  unfolding gaps_no first_of
  enough n l = rw (reached_sound r, le-ltb n (length (gaps_of x.width x.board)) (omega (arith, long)))

  pub reached_outstanding : Outstanding x dealt
  reached_outstanding = record {
    as_many = long;
    listed = λ v l z. list_is.holds v l (undealt→missing v z);
    no_other = λ v m. let h = list_is.only v m in (h.0, missing→undealt v h.1);
    at_rest = λ z. none_of (gaps_of x.width x.board) (long ∙ z);
    room = enough;
  }

  -- ---- further calls
  module _ (calls : List Call) where
    abbrev y : After Run
    y = calls_of x calls

    both : (v : ℕ) → times v (dealt ++ y.deals) ≡ times v dealt + times v y.deals
    both v = times_append v dealt y.deals

    then : Promise y.run.width y.run.board (dealt ++ y.deals)
    then = reached_promise (reached_calls r calls)

    pub reached_to_come : ToCome x calls
    reached_to_come = record {
      of_the_list = λ none v l.
          reached_outstanding.listed v
          (omega (arith, none, both v, then.below v (omega (arith, both v))))
          (omega (arith, both v, then.once v));
      whole = λ none done v m.
          let h = reached_outstanding.no_other v m in
          omega (arith, both v, h.1, then.at_rest done v (omega (arith, none, h.0)));
    }

pub all_outstanding : AllOutstanding
all_outstanding = record {
  holds = λ w c calls ok. reached_outstanding _ _ (history_reached w c ok calls);
}

pub all_to_come : AllToCome
all_to_come = record {
  holds = λ w c before calls ok. reached_to_come _ _ (history_reached w c ok before) calls;
}
