-- A report has at most 12 bytes, as has any record. Assumes nothing.
use Prim.Native.Nat.{ℕ, ◌≤◌}
use native.Mathlib.Omega.{arith}
use lib.ListN.{length}
use Rattle.moves.specs.Answer.{Answer, Passed, Dealt, Refused}
use Rattle.records.specs.declared.Record.{Record}
use Rattle.records.specs.declared.Record.TheVariants.{Open, Enter, Turn as TurnRecord, Close, Number}
use Rattle.records.specs.Reading.{length_of}
use Rattle.records.specs.Writing.{size_of}
use Rattle.records.proofs.Writing.{length_bytes_of}
use Rattle.outcome.specs.Step.{report_of}

pub size_most : (r : Record) → size_of r ≤ 12
unfolding size_of length_of
size_most (Open w c) = omega arith
size_most (Enter t v) = omega arith
size_most (TurnRecord t) = omega arith
size_most (Close e) = omega arith
size_most (Number t v n) = omega arith

pub length_report_of : (t : ℕ) (a : Answer) → length (report_of t a) ≤ 12
unfolding report_of
length_report_of t (Passed l v L c o) = omega arith
length_report_of t (Dealt i n) = rw length_bytes_of (size_most (Number t i n))
length_report_of t (Refused k) = omega arith
