-- The highest number dealt, from the sums of the yields of the exits (02, P6). Definitions and the statement of what they come to,
-- whose proof is `highest_is` of proofs/Past. Assumes nothing.
use Rattle.std.specs.Prelude.{◌≡◌, Result, Ok, Err, Option, Some, None, ℕ, zero, suc, ◌+◌, ◌-◌, ◌<◌, ◌≤◌, Bool, true, false, cond, List, ◌==◌, max, slice_index}
use Rattle.order.specs.declared.Refusal.{Refusal}
use Rattle.order.specs.Order.{number_of}
use Rattle.network.specs.Widths.{width_ok}
use Rattle.moves.specs.Turn.{number_at}

-- one more than the highest number that exit i has dealt where its yields add up to s, and 0 where it has dealt none
unfoldable pub past_at : ℕ → ℕ → ℕ → ℕ
past_at w i s = cond (s == 0) 0 (number_at w i (s - 1) + 1)

-- of the exits below n
unfoldable pub past_below : ℕ → List ℕ → ℕ → ℕ
past_below w sums zero = 0
past_below w sums (suc n) = max (past_below w sums n) (past_at w n (slice_index sums n))

-- what is answered: the highest number, that nothing was dealt, or the number of the refusal
pub data Top : Type 0 where
  Number : ℕ → Top
  Nothing : Top
  Refused : ℕ → Top

abbrev pub top_by : Result (Option ℕ) Refusal → Top
top_by (Ok (Some n)) = Number n
top_by (Ok None) = Nothing
top_by (Err e) = Refused (number_of e)

abbrev pub top_past : ℕ → Top
top_past n = cond (n == 0) Nothing (Number (n - 1))

-- 1 width not allowed; exits below the width are read and no others
unfoldable pub highest_of : ℕ → List ℕ → Top
highest_of w sums = cond (width_ok w) (top_past (past_below w sums w)) (Refused 1)

-- the number of refusal, 0 where the call was carried out; whether a number was dealt, and then the highest, else 0
pub record Values : Type 0 where
  pub refusal : ℕ
  pub some : Bool
  pub number : ℕ

unfoldable pub values_of : Top → Values
values_of (Number n) = record { refusal = 0; some = true; number = n }
values_of Nothing = record { refusal = 0; some = false; number = 0 }
values_of (Refused n) = record { refusal = n; some = false; number = 0 }

-- what is answered at an allowed width: the largest i + w · (sum - 1) over the sums above 0, and none where there is none
pub record HighestIs (w : ℕ) (sums : List ℕ) (a : Values) : Type 0 where
  pub carried_out : a.refusal ≡ 0
  pub none : a.some ≡ false → (i : ℕ) → i < w → slice_index sums i ≡ 0
  pub most : (i : ℕ) → i < w → 0 < slice_index sums i → (a.some ≡ true) × (number_at w i (slice_index sums i - 1) ≤ a.number)
  pub one : a.some ≡ true → (i : ℕ) × ((i < w) × ((0 < slice_index sums i) × (a.number ≡ number_at w i (slice_index sums i - 1))))
