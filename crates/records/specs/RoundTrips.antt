-- The two round trips of a record. The statement only; the proof is `round_trips` of proofs/Round. Assumes nothing.
use Rattle.std.specs.Prelude.{ℕ, ◌<◌, ◌^◌, ◌≡◌, List, ◌++◌, Bool, true, ◌&&◌, length, get_or, take, ltb}
use Rattle.records.specs.declared.Record.{Record}
use Rattle.records.specs.declared.Record.TheVariants.{Open, Enter, Turn, Close, Number}
use Rattle.records.specs.Reading.{Got, read_of}
use Rattle.records.specs.Writing.{bytes_of}

-- the fields of a record are of 16 and 32 bits
unfoldable pub fits : Record → Bool
fits (Open w c) = ltb w (2 ^ 16) && ltb c (2 ^ 16)
fits (Enter t v) = ltb t (2 ^ 16) && ltb v (2 ^ 16)
fits (Turn t) = ltb t (2 ^ 16)
fits (Close e) = ltb e (2 ^ 32)
fits (Number t v n) = ltb t (2 ^ 16) && ltb v (2 ^ 16) && ltb n (2 ^ 32)

pub record RoundTrips : Type 0 where
  -- a record written reads back as itself, whatever bytes stand behind it
  pub written_read : (r : Record) (rest : List ℕ) → fits r ≡ true → read_of true (bytes_of r ++ rest) ≡ Got r (length (bytes_of r))
  -- a record read and written again gives its own bytes
  pub read_written : (s : List ℕ) (r : Record) (n : ℕ) → ((i : ℕ) → i < length s → get_or s i 0 < 256) → read_of true s ≡ Got r n → bytes_of r ≡ take n s
