-- What the dials tell of every history: `run_alone`, `all_yields`, `all_highest`. Assumes nothing.
use Prim.Native.Nat.{ℕ, ◌+◌, ◌%◌, ◌≤◌, ◌<◌}
use mathlib.Core.Path.{◌≡◌, ◌∙◌}
use mathlib.Core.Bool.{true}
use mathlib.Core.List.{List}
use native.Mathlib.Omega.{arith}
use lib.ListN.{get_or, get_or-map}
use borrow.Author.Tests.{lt-leb}
use Rattle.order.specs.Order.{first_of}
use Rattle.network.specs.Widths.{open_no}
use Rattle.network.proofs.Widths.{allowed, width_small, width_some}
use Rattle.board.specs.Board.{count_at}
use Rattle.board.proofs.Sound as board
use Rattle.run.specs.declared.Run.{Run}
use Rattle.run.specs.Run.{depth_in, sound}
use Rattle.run.proofs.Keeps.{parts}
use Rattle.promise.specs.History.{Deal, history, dealt_at}
use Rattle.promise.proofs.Book.{Book}
use Rattle.promise.proofs.Reached.{reached_sound, history_reached, history_width}
use Rattle.promise.proofs.Promise.{demand_3}
use Rattle.promise.proofs.Further.{true_counts}
use Rattle.dials.specs.Dials.{round, sum_round, open_dial}
use Rattle.dials.proofs.Past.{highest_is}
use Rattle.small.specs.declared.Cabinet.{Cabinet}
use Rattle.small.specs.Small.{dial_at, poll_no, poll_small}
use Rattle.dial_promise.specs.Told.{SmallCall, Told, small_history, run_calls, yields_at, since, AtPolls}
use Rattle.dial_promise.specs.Promise.{RunAlone, Paced, Yields, AllYields, sums_of, AllHighest}
use Rattle.dial_promise.proofs.Log.{at_polls_both, adds_up_lem}
use Rattle.dial_promise.proofs.Dials.{history_follows}
use Rattle.dial_promise.proofs.Alone.{run_is, deals_are}
use Rattle.dial_promise.proofs.Highest.{highest_dealt}

pub run_alone : RunAlone
run_alone = record {
  run = run_is;
  deals = deals_are;
  demand_3 = λ w c calls ok. rw (run_is w c calls, deals_are w c calls) (demand_3.holds w c (run_calls calls) ok);
}

module _ (w c : ℕ) (ok : open_no w c ≡ 0) (calls : List SmallCall) where
  abbrev x : Cabinet
  x = (small_history w c calls).cabinet

  abbrev told : List Told
  told = (small_history w c calls).told

  abbrev inside : Run
  inside = (history w c (run_calls calls)).run

  abbrev deals : List Deal
  deals = (history w c (run_calls calls)).deals

  -- ---- the run inside is reached
  is_sound : sound inside ≡ true
  is_sound = reached_sound (history_reached w c ok (run_calls calls))

  book : Book w (count_at inside.board) deals
  book = rw (history_width w c ok (run_calls calls)) at (history_reached w c ok (run_calls calls)).keeping.kept.book

  count_small : (i : ℕ) → count_at inside.board i ≤ 1000000
  count_small i =
      let good = (parts inside is_sound).board in
      omega (
        arith,
        board.count_le inside.width (depth_in inside) inside.board i good,
        (board.parts inside.width (depth_in inside) inside.board good).few,
      )

  -- ---- an exit
  module _ (i : ℕ) (l : i < w) where
    low : i < 64
    low = omega (arith, width_small w (allowed w c ok).width)

    polls : (poll_small x i).refusal ≡ 0
    unfolding poll_small poll_no first_of
    polls = rw (run_is w c calls, is_sound, history_width w c ok (run_calls calls), lt-leb w i l)

    each_exact : Paced i told → AtPolls (λ k y. y ≡ k) i 0 told
    each_exact p =
        at_polls_both i (λ k y. y ≡ k % round) (λ k y. k < round) (λ k y. y ≡ k) (λ k y e m. omega arith) 0 told
        (history_follows i low w c calls).yields p

    yields_count : Paced i told → since i 0 told ≡ 0 → yields_at i told ≡ count_at inside.board i
    yields_count p z =
        let all : yields_at i told + since i 0 told ≡ 0 + dealt_at i deals = rw (deals_are w c calls) at (adds_up_lem i 0 told (each_exact p)) in
        omega (arith, true_counts.holds w c (run_calls calls) i ok l)

    sum_yields : (dial_at x.dials i).sum ≡ yields_at i told % sum_round
    sum_yields = omega (arith, (history_follows i low w c calls).stands.sum)

    pub exit_yields : Yields i x told
    exit_yields = record {
      served = polls;
      taken_round = (history_follows i low w c calls).yields;
      exact = each_exact;
      count = λ p z. rw (run_is w c calls) (yields_count p z);
      sum = sum_yields;
    }

    -- right after a poll the dial's sum is the count
    sum_count : Paced i told → since i 0 told ≡ 0 → get_or (sums_of x.dials) i 0 ≡ count_at inside.board i
    sum_count p z =
        get_or-map (λ d. d.sum) x.dials i open_dial ∙ omega (arith, sum_yields, yields_count p z, count_small i)

pub all_yields : AllYields
all_yields = record { holds = λ w c calls i ok l. exit_yields w c ok calls i l }

pub all_highest : AllHighest
all_highest = record {
  holds = λ w c calls ok h.
      let width = (allowed w c ok).width in
      let sums = sums_of (small_history w c calls).cabinet.dials in
      rw (deals_are w c calls)
      (highest_dealt w (width_some w width) sums _ (λ i l. sum_count w c ok calls i l (h i l).0 (h i l).1) _ (book w c ok calls) _
      (highest_is w sums width));
}
