-- The bytes of the reports. In order: of a list and another; of a turn's answer; their length. Assumes nothing.
use Prim.Native.Nat.{ℕ, ◌*◌}
use mathlib.Core.Path.{◌≡◌, refl}
use mathlib.Core.List.{List, [], ◌∷◌, ◌++◌, append_assoc, append-nil}
use native.Mathlib.Omega.{arith}
use lib.ListN.{length, length-append}
use Rattle.moves.specs.Answer.{Answer, Passed, Dealt, Refused, values_of}
use Rattle.records.specs.Reading.{length_of}
use Rattle.records.specs.Writing.{size_of}
use Rattle.records.proofs.Writing.{length_bytes_of}
use Rattle.outcome.specs.Step.{report_of}
use Rattle.promise.specs.History.{Deal, deal_of}
use Rattle.filed.specs.Filed.{reports_of}

pub reports_append : (l m : List Deal) → reports_of (l ++ m) ≡ reports_of l ++ reports_of m
unfolding reports_of
reports_append [] m = refl
reports_append (d ∷ l) m = rw (append_assoc, reports_append l m)

pub reports_deal_of : (t : ℕ) (a : Answer) → report_of t a ≡ reports_of (deal_of t (values_of a))
unfolding report_of reports_of values_of
reports_deal_of t (Passed l v L c o) = refl
reports_deal_of t (Dealt i n) = rw append-nil
reports_deal_of t (Refused k) = refl

pub length_reports : (l : List Deal) → length (reports_of l) ≡ 12 * length l
unfolding reports_of size_of length_of
length_reports [] = refl
length_reports (d ∷ l) =
    rw (length-append, length_bytes_of) (omega (arith, length_reports l))
