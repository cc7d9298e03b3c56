-- Refusals in a fixed order, and lent buffers (01, "Numbers of refusal"). Definitions only. Assumes nothing.
use Rattle.std.specs.Prelude.{ℕ, List, [], ◌∷◌, ◌++◌, length, drop, Bool, cond, eqb, Result, Ok, Err}
use Rattle.order.specs.declared.Refusal.{Refusal}
use Rattle.order.specs.declared.Refusal.TheVariants.{Width, Construction, SheetShort, NoToken, NoWire, AlreadyInside, RunFull, NotInside, NotSound, NoLayer, HeadCut, WrongLength, UnknownKind, OutOfPlace, BadClose, ScheduleLong, NoRoom, NestedTooDeep, NoMembers, Unequal, NoPermutation, PastLimits, BodyCut}

-- the number of each refusal
abbrev pub number_of : Refusal → ℕ
number_of Width = 1
number_of Construction = 2
number_of SheetShort = 3
number_of NoToken = 4
number_of NoWire = 5
number_of AlreadyInside = 6
number_of RunFull = 7
number_of NotInside = 8
number_of NotSound = 9
number_of NoLayer = 10
number_of HeadCut = 11
number_of WrongLength = 12
number_of UnknownKind = 13
number_of OutOfPlace = 14
number_of BadClose = 15
number_of ScheduleLong = 16
number_of NoRoom = 17
number_of NestedTooDeep = 18
number_of NoMembers = 19
number_of Unequal = 20
number_of NoPermutation = 21
number_of PastLimits = 22
number_of BodyCut = 23

-- the number of an answer: that of its refusal, and 0 where the call was carried out
abbrev pub refused_by : {A : Type 0} → Result A Refusal → ℕ
refused_by (Ok a) = 0
refused_by (Err e) = number_of e

-- a rule of an order: its condition and its number
pub record Rule : Type 0 where
  pub when : Bool
  pub number : ℕ

abbrev pub ◌⟶◌ : Bool → ℕ → Rule
b ⟶ n = record { when = b; number = n }

infixr 20 ◌⟶◌
-- the number of the first whose condition holds, and 0, carried out, where none does
unfoldable pub first_of : List Rule → ℕ
first_of [] = 0
first_of (r ∷ rest) = cond r.when r.number (first_of rest)

-- what a call that fills a lent buffer answers, in numbers: its refusal, and how many bytes or numbers it filled
pub record Filled : Type 0 where
  pub refusal : ℕ
  pub filled : ℕ

abbrev pub filled_by : Result ℕ Refusal → Filled
filled_by (Ok n) = record { refusal = 0; filled = n }
filled_by (Err e) = record { refusal = number_of e; filled = 0 }

-- n where it was carried out, and 0 where it was refused
abbrev pub filled_of : ℕ → ℕ → Filled
filled_of number n = record { refusal = number; filled = cond (eqb number 0) n 0 }

-- a lent buffer with a list in front; the rest of it stays
abbrev pub over : {A : Type 0} → List A → List A → List A
over l out = l ++ drop (length l) out
