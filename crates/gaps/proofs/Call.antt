-- Laws of the call: a sound record has few entered and can be walked over; the list of its counts is the record's; what each way
-- out comes to. Assumes nothing.
use Prim.Native.Nat.{ℕ, ◌≤◌, ◌<◌}
use mathlib.Core.Path.{◌≡◌, refl}
use mathlib.Core.Bool.{Bool, true, false}
use mathlib.Core.List.{List}
use native.Mathlib.Omega.{arith}
use lib.ListN.{length}
use Rattle.std.proofs.Common.{Result, Err}
use Rattle.order.specs.declared.Refusal.{Refusal}
use Rattle.order.specs.declared.Refusal.TheVariants.{NotSound}
use Rattle.order.specs.Order.{first_of}
use Rattle.board.specs.declared.Board.{Board}
use Rattle.board.specs.Board.{max_entered, count_at}
use Rattle.board.specs.Sound.{sound_board}
use Rattle.board.proofs.Sound.{parts, count_le}
use Rattle.gaps.specs.Gaps.{gaps_below, gaps_of, gaps_no, GapsIs}
use Rattle.gaps.specs.Counts.{of_counts, CanWalk, room_no, FillIs}
use Rattle.gaps.proofs.Gaps.{gaps_counts}

module _ (w : ℕ) (x : Board) where
  module _ (d : ℕ) (h : sound_board w d x ≡ true) where
    pub few_entered_lem : x.entered ≤ max_entered
    few_entered_lem = (parts w d x h).few

    pub can_walk : 0 < w → w ≤ 64 → CanWalk w x.counts
    unfolding count_at
    can_walk some most = record {
      some = some;
      few = most;
      small = λ i. omega (arith, count_le w d x i h, few_entered_lem);
    }

  -- the list by the counts alone is the record's
  pub gaps_of_lem : gaps_below w (of_counts x.counts) x.entered ≡ gaps_of w x
  unfolding gaps_of
  gaps_of_lem = gaps_counts w x x.entered

  -- a sound record is refused for its room alone
  gaps_no_sound : (room : ℕ) → gaps_no true w x room ≡ room_no (gaps_of w x) room
  unfolding gaps_no room_no first_of
  gaps_no_sound room = refl

  module _ {good : Bool} where
    pub gaps_unsound : good ≡ false → (before : List ℕ) → GapsIs good w x before before (Err NotSound)
    unfolding gaps_no first_of
    gaps_unsound h before = record { answer = rw h; numbers = rw h }

    pub gaps_sound : good ≡ true → {l before after : List ℕ} {r : Result ℕ Refusal} → l ≡ gaps_of w x → FillIs l before after r
        → GapsIs good w x before after r
    gaps_sound h {l} {before} e f =
        record {
          answer = rw (h, gaps_no_sound (length before), ← e) f.answer;
          numbers = rw (h, gaps_no_sound (length before), ← e) f.numbers;
        }
