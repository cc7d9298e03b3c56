-- What a dial cannot tell: 65,536 numbers between two polls read as none. The statement only; the proof is `rounds` of proofs/Dials.
-- Assumes nothing.
use Rattle.std.specs.Prelude.{◌≡◌, ℕ, zero, suc, ◌%◌, ◌<◌}
use Rattle.dials.specs.declared.Dial.{Dial}
use Rattle.dials.specs.Dials.{round, advance_of, yield_of, poll_of}

-- n numbers are dealt at the dial's exit
unfoldable pub advances : ℕ → Dial → Dial
advances zero d = d
advances (suc n) d = advance_of (advances n d)

pub record Rounds : Type 0 where
  pub yields : (d : Dial) (n : ℕ) → d.now < round → yield_of (advances n (poll_of d).dial) ≡ n % round
  pub as_none : (d : Dial) → d.now < round → yield_of (advances 65536 (poll_of d).dial) ≡ 0
  pub one_less : (d : Dial) → d.now < round → yield_of (advances 65535 (poll_of d).dial) ≡ 65535
