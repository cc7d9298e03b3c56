-- What a reader gave, in two reads, and what a writer took, in two writes. Assumes nothing.
use Rattle.std.proofs.Common.{◌≡◌, ℕ, ◌+◌, List, take, drop}
use Rattle.std.proofs.Math.Seq.{take-add}
use Rattle.std.specs.declared.option.Option.{Option}
use Rattle.std.specs.Io.KnownBytes.{Appends, Consumes}
use Rattle.std.proofs.KnownBytes.{Appends-trans, Consumes-trans}

-- a read behind the first `done` bytes of a buffer, which stay
pub read_more : (a b c : Option (List ℕ)) (before after : List ℕ) (done n : ℕ) → take done after ≡ take done before → Consumes a b (take done before)
    → Consumes b c (take n (drop done after)) → Consumes a c (take (done + n) after)
read_more a b c before after done n front p q = rw (take-add, front) (Consumes-trans a b c _ _ p q)

-- a write behind the first `done` bytes of what is written
pub write_more : (a b c : Option (List ℕ)) (bytes : List ℕ) (done n : ℕ) → Appends a b (take done bytes) → Appends b c (take n (drop done bytes))
    → Appends a c (take (done + n) bytes)
write_more a b c bytes done n p q = rw take-add (Appends-trans a b c _ _ p q)
