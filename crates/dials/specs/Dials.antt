-- A dial at an exit (02, P6): it goes on by one with each number dealt there. Definitions only. Assumes nothing.
use Rattle.std.specs.Prelude.{ℕ, ◌+◌, ◌-◌, ◌%◌}
use Rattle.dials.specs.declared.Dial.{Dial}
use Rattle.dials.specs.declared.Polled.{Polled}

-- a dial of 16 bits goes round from 65,535 to 0, and a sum of yields at 2^32
abbrev pub round : ℕ
round = 65536

abbrev pub sum_round : ℕ
sum_round = 4294967296

-- dial, last reading and the sum of the yields are 0 at opening
abbrev pub open_dial : Dial
open_dial = record { now = 0; last = 0; sum = 0 }

-- a number is dealt at the dial's exit
unfoldable pub advance_of : Dial → Dial
advance_of d = record { now = (d.now + 1) % round; last = d.last; sum = d.sum }

-- the numbers dealt since the last reading, taken round the zero
unfoldable pub yield_of : Dial → ℕ
yield_of d = (d.now + round - d.last) % round

-- a poll: its yield, which the sum goes up by; what is read now is the last reading
unfoldable pub poll_of : Dial → Polled
poll_of d =
    record {
      yielded = yield_of d;
      dial = record { now = d.now; last = d.now; sum = (d.sum + yield_of d) % sum_round };
    }
