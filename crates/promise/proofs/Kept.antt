-- What every history of a layered network keeps: tokens in balance, and the numbers dealt by the counts. Any rows and exits.
-- Assumes nothing.
use Prim.Native.Nat.{ℕ, ◌+◌, ◌*◌, ◌/◌, ◌<◌}
use mathlib.Core.Path.{◌≡◌, sym, ◌∙◌}
use mathlib.Core.List.{List, [], ◌∷◌, ◌++◌}
use native.Mathlib.Decide.{ℕ_discrete}
use native.Mathlib.Omega.{arith}
use lib.ListN.{length, length-append}
use Rattle.rest.specs.Sum.{sum}
use Rattle.rest.proofs.Sum.{only_same, only_other, sum_ext, sum_change, sum_zero}
use Rattle.board.specs.Sound.{sum_of}
use Rattle.promise.specs.History.{Deal, dealt_at}
use Rattle.promise.proofs.Core.{Seen, Opens, Enters, Passes, Deals, Balanced, one, left, opens_balanced, enters_balanced, passes_balanced, deals_balanced}
use Rattle.promise.proofs.Book.{Book, book_none, book_same, book_deal, dealt_at_append, dealt_at_one}

module _ (w d : ℕ) (cell : ℕ → ℕ → ℕ) (exit : ℕ → ℕ) where
  -- x v have entered on wire v, and gone L v have left wire v of level L
  pub record Kept (o : Seen) (x : ℕ → ℕ) (deals : List Deal) : Type 0 where
    pub gone : ℕ → ℕ → ℕ
    pub balanced : Balanced w d cell exit o x gone
    pub book : Book w o.count deals
    pub counted : (i : ℕ) → i < w → o.count i ≡ dealt_at i deals
    pub size : length deals ≡ sum w o.count

module _ (w d : ℕ) (cell : ℕ → ℕ → ℕ) (exit : ℕ → ℕ) (pos : 0 < w) where
  pub kept_open : (o : Seen) → Opens w d cell exit o → Kept w d cell exit o (λ u. 0) []
  unfolding dealt_at sum_of
  kept_open o s = record {
    gone = λ K u. 0;
    balanced = opens_balanced w d cell exit o s;
    book = book_none w pos o.count s.counts;
    counted = s.counts;
    size = sym (sum_zero w o.count s.counts);
  }

  pub kept_enter : (a b : Seen) (v : ℕ) (x : ℕ → ℕ) (deals : List Deal) → Enters w d cell exit a b v → Kept w d cell exit a x deals
      → Kept w d cell exit b (λ u. x u + one 0 v 0 u) deals
  kept_enter a b v x deals s k = record {
    gone = k.gone;
    balanced = enters_balanced w d cell exit a b v x k.gone s k.balanced;
    book = book_same w pos a.count b.count deals s.counts k.book;
    counted = λ i l. s.counts i l ∙ k.counted i l;
    size = k.size ∙ sym (sum_ext w b.count a.count s.counts);
  }

  pub kept_pass : ((L v : ℕ) → L < d → v < w → cell L v < w / 2)
      → (a b : Seen) (L v : ℕ) (x : ℕ → ℕ) (deals : List Deal) → Passes w d cell exit a b L v → Kept w d cell exit a x deals
      → Kept w d cell exit b x deals
  kept_pass fits a b L v x deals s k = record {
    gone = left L v k.gone;
    balanced = passes_balanced w d cell exit fits a b L v x k.gone s k.balanced;
    book = book_same w pos a.count b.count deals s.counts k.book;
    counted = λ i l. s.counts i l ∙ k.counted i l;
    size = k.size ∙ sym (sum_ext w b.count a.count s.counts);
  }

  -- exit i with count c deals the number i + w · c
  pub kept_deal : (a b : Seen) (v : ℕ) (x : ℕ → ℕ) (deals : List Deal) (e : Deal) → exit v < w → e.exit ≡ exit v
      → e.number ≡ exit v + w * a.count (exit v) → Deals w d cell exit a b v → Kept w d cell exit a x deals
      → Kept w d cell exit b x (deals ++ (e ∷ []))
  kept_deal a b v x deals e l at n s k = record {
    gone = left d v k.gone;
    balanced = deals_balanced w d cell exit a b v x k.gone l s k.balanced;
    book = book_deal w pos a.count b.count deals e (rw at l) (rw at n) (rw at s.raised) (rw at s.counts) k.book;
    counted = more;
    size = rw length-append (omega (arith, k.size, sum_change w a.count b.count (exit v) l s.counts, s.raised));
  }
    where
      more : (i : ℕ) → i < w → b.count i ≡ dealt_at i (deals ++ (e ∷ []))
      more i m = rw (dealt_at_append i deals (e ∷ []), dealt_at_one i e, at) (elim (ℕ_discrete (exit v) i) [
        | yes q ↦ rw (only_same (exit v) i 1 q, ← k.counted i m, ← q) s.raised
        | no q ↦ omega (arith, only_other (exit v) i 1 q, k.counted i m, s.counts i m (λ z. q (sym z)))
      ])
