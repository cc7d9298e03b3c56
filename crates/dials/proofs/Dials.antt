-- Laws of a dial. In order: what a wrapping subtraction is; advances. Assumes nothing.
use Rattle.std.proofs.Common.{◌≡◌, ℕ, zero, suc, ◌+◌, ◌-◌, ◌%◌, ◌^◌, ◌<◌, refl, arith}
use Rattle.dials.specs.declared.Dial.{Dial}
use Rattle.dials.specs.Dials.{round, advance_of, yield_of, poll_of}
use Rattle.dials.specs.Rounds.{advances, Rounds}

-- what b added to goes round to a
pub sub_round : (a b r : ℕ) → a < round → b < round → r < round → (r + b) % 2 ^ 16 ≡ a → r ≡ (a + round - b) % round
sub_round a b r h k l e = omega arith

-- ---- advances: the dial goes on, and the last reading stays
now_advances : (d : Dial) (n : ℕ) → d.now < round → (advances n d).now ≡ (d.now + n) % round
unfolding advances advance_of
now_advances d zero h = omega arith
now_advances d (suc n) h = omega (arith, now_advances d n h)

last_advances : (d : Dial) (n : ℕ) → (advances n d).last ≡ d.last
unfolding advances advance_of
last_advances d zero = refl
last_advances d (suc n) = last_advances d n

yield_advances : (d : Dial) (n : ℕ) → d.now < round → yield_of (advances n (poll_of d).dial) ≡ n % round
unfolding yield_of poll_of
yield_advances d n h = omega (arith, now_advances (poll_of d).dial n h, last_advances (poll_of d).dial n)

pub rounds : Rounds
rounds = record {
  yields = yield_advances;
  as_none = λ d h. yield_advances d 65536 h;
  one_less = λ d h. yield_advances d 65535 h;
}
