-- Where records start. In order: they rise, so a byte is one of one record; a record read ends where the next one starts.
-- Assumes nothing.
use Prim.Native.Nat.{ℕ, zero, suc, ◌+◌, ◌≤◌}
use mathlib.Core.Path.{◌≡◌}
use mathlib.Core.List.{List}
use native.Mathlib.Omega.{arith}
use native.Mathlib.Decide.{dec_lt, ℕ_discrete}
use lib.ListN.{drop}
use Rattle.records.specs.Reading.{length_in}
use Rattle.cut.specs.Starts.{start_of, StandsIn}

module _ (s : List ℕ) where
  start_le : (r q : ℕ) → r ≤ q → start_of s r ≤ start_of s q
  unfolding start_of
  start_le r zero h = let e : r ≡ 0 = omega arith in rw e (omega arith)
  start_le r (suc q) h = elim (ℕ_discrete r (suc q)) [
    | yes e ↦ rw e (omega arith)
    | no e ↦ omega (arith, start_le r q (omega arith))
  ]

  pub stands_only : (n r q : ℕ) → StandsIn s r n → StandsIn s q n → r ≡ q
  stands_only n r q a b = elim (dec_lt r q) [
    | yes l ↦ absurd (omega (arith, a.ends, b.starts, start_le (suc r) q (omega arith)))
    | no l ↦ elim (dec_lt q r) [
      | yes m ↦ absurd (omega (arith, b.ends, a.starts, start_le (suc q) r (omega arith)))
      | no m ↦ omega arith
    ]
  ]

  pub start_next : (r at len : ℕ) → start_of s r ≡ at → length_in (drop at s) ≡ len → start_of s (r + 1) ≡ at + len
  unfolding start_of
  start_next r at len e f = let next : r + 1 ≡ suc r = omega arith in rw (next, e, f)
