-- Where the records of a schedule stand in its file (01, "Schedule bytes"). Definitions only. Assumes nothing.
use Rattle.std.specs.Prelude.{ℕ, zero, suc, ◌+◌, ◌<◌, ◌≤◌, List, drop}
use Rattle.records.specs.Reading.{length_in}

-- the offset of record r: behind the records before it, each as long as its length field says
unfoldable pub start_of : List ℕ → ℕ → ℕ
start_of s zero = 0
start_of s (suc r) = let o = start_of s r in o + length_in (drop o s)

-- the byte at offset n is one of record r
pub record StandsIn (s : List ℕ) (r n : ℕ) : Type 0 where
  pub starts : start_of s r ≤ n
  pub ends : n < start_of s (suc r)
