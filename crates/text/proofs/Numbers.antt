-- Laws of numbers as text. In order: digits, one at a time; the most digits; bytes in hex. Assumes nothing.
use Prim.Native.Nat.{ℕ, zero, suc, ◌+◌, ◌/◌, ◌%◌, ◌^◌, ◌≤◌, ◌<◌}
use mathlib.Core.Path.{◌≡◌, refl, ap}
use mathlib.Core.Bool.{Bool, true, false, cond}
use mathlib.Core.List.{List, [], ◌∷◌, ◌++◌, append-nil}
use native.Mathlib.Omega.{arith}
use native.Mathlib.Nat.{pow-succ'}
use lib.ListN.{length, length-append}
use lib.Dec.{ltb}
use borrow.Author.Tests.{lt-ltb, le-ltb}
use Rattle.text.specs.Text.{each, Puts}
use Rattle.text.specs.Numbers.{digits, decimal, hex_pair, hex_text}
use Rattle.text.specs.Lists.{dash_unless}
use Rattle.text.proofs.Text.{Going, going_all, puts_then}

-- ---- digits
-- more digits than a number has make no difference
digits_more : (n x : ℕ) → x < 10 ^ suc n → digits (suc (suc n)) x ≡ digits (suc n) x
unfolding digits
digits_more zero x h = rw (lt-ltb x 10 h)
digits_more (suc n) x h =
    ap (λ (tenth : List ℕ). cond (ltb x 10) ((48 + x) ∷ []) (tenth ++ ((48 + x % 10) ∷ [])))
    (digits_more n (x / 10) (omega (arith, pow-succ' 10 (suc n))))

pub decimal_digit : (x : ℕ) → x < 10 → (48 + x) ∷ [] ≡ decimal x
unfolding decimal digits
decimal_digit x h = rw (lt-ltb x 10 h)

-- from 10 on: the digits of the tenth, then the last one
digits_last : (n x : ℕ) → 10 ≤ x → digits n (x / 10) ++ ((48 + x % 10) ∷ []) ≡ digits (suc n) x
unfolding digits
digits_last n x h = rw (le-ltb x 10 h)

pub decimal_more : (x : ℕ) → 10 ≤ x → x < 2 ^ 64 → decimal (x / 10) ++ ((48 + x % 10) ∷ []) ≡ decimal x
unfolding decimal
decimal_more x h fits = rw (digits_more 18 (x / 10) (omega arith)) (digits_last 19 x h)

length_digits : (n x : ℕ) → length (digits n x) ≤ n
unfolding digits
length_digits zero x = omega arith
length_digits (suc n) x = picked (ltb x 10) (length_digits n (x / 10))
  where
    picked : (b : Bool) → length (digits n (x / 10)) ≤ n → length (cond b ((48 + x) ∷ []) (digits n (x / 10) ++ ((48 + x % 10) ∷ []))) ≤ suc n
    picked true ih = omega arith
    picked false ih = rw length-append (omega arith)

pub length_decimal : (x : ℕ) → length (decimal x) ≤ 20
unfolding decimal
length_decimal x = length_digits 20 x

-- ---- bytes in hex: the pairs, and the dash where there are none
hex_whole : (bytes : List ℕ) → each hex_pair bytes ++ dash_unless (ltb 0 (length bytes)) ≡ hex_text bytes
unfolding hex_text dash_unless each
hex_whole [] = refl
hex_whole (b ∷ rest) = rw (lt-ltb 0 (length (b ∷ rest)) (omega arith)) (append-nil (each hex_pair (b ∷ rest)))

pub hex_all : {bytes out₀ out out' : List ℕ} {at next last i : ℕ} → Going hex_pair bytes at out₀ next i out → length bytes ≤ i
    → Puts (dash_unless (ltb 0 (length bytes))) next out last out' → Puts (hex_text bytes) at out₀ last out'
hex_all {bytes} g h p = rw (← hex_whole bytes) (puts_then (going_all g h) p)
