-- Laws of the refusals' numbers. In order: a number is the variant's place; it is not 0, and tells the refusal; the same of an answer.
-- Assumes nothing.
use Prim.Native.Nat.{ℕ, ◌+◌}
use mathlib.Core.List.{[], ◌∷◌}
use mathlib.Core.Path.{◌≡◌, refl, sym}
use native.Mathlib.Omega.{arith}
use lib.ListN.{get_or}
use denote.Enum.Declared.{tag_of}
use Rattle.std.proofs.Common.{Result, Ok, Err}
use Rattle.order.specs.contracts.Refusal.{the_type}
use Rattle.order.specs.declared.Refusal.{Refusal}
use Rattle.order.specs.declared.Refusal.TheVariants.{Width, Construction, SheetShort, NoToken, NoWire, AlreadyInside, RunFull, NotInside, NotSound, NoLayer, HeadCut, WrongLength, UnknownKind, OutOfPlace, BadClose, ScheduleLong, NoRoom, NestedTooDeep, NoMembers, Unequal, NoPermutation, PastLimits, BodyCut}
use Rattle.order.specs.Order.{number_of, refused_by}

pub number_place : (e : Refusal) → tag_of the_type e + 1 ≡ number_of e
number_place Width = refl
number_place Construction = refl
number_place SheetShort = refl
number_place NoToken = refl
number_place NoWire = refl
number_place AlreadyInside = refl
number_place RunFull = refl
number_place NotInside = refl
number_place NotSound = refl
number_place NoLayer = refl
number_place HeadCut = refl
number_place WrongLength = refl
number_place UnknownKind = refl
number_place OutOfPlace = refl
number_place BadClose = refl
number_place ScheduleLong = refl
number_place NoRoom = refl
number_place NestedTooDeep = refl
number_place NoMembers = refl
number_place Unequal = refl
number_place NoPermutation = refl
number_place PastLimits = refl
number_place BodyCut = refl

-- the refusal of a number
at : ℕ → Refusal
at n = get_or (Width ∷ Width ∷ Construction ∷ SheetShort ∷ NoToken ∷ NoWire ∷ AlreadyInside ∷ RunFull ∷ NotInside ∷ NotSound ∷ NoLayer ∷ HeadCut ∷ WrongLength ∷ UnknownKind ∷ OutOfPlace ∷ BadClose ∷ ScheduleLong ∷ NoRoom ∷ NestedTooDeep ∷ NoMembers ∷ Unequal ∷ NoPermutation ∷ PastLimits ∷ BodyCut ∷ []) n Width

at_number : (e : Refusal) → at (number_of e) ≡ e
unfolding at
at_number Width = refl
at_number Construction = refl
at_number SheetShort = refl
at_number NoToken = refl
at_number NoWire = refl
at_number AlreadyInside = refl
at_number RunFull = refl
at_number NotInside = refl
at_number NotSound = refl
at_number NoLayer = refl
at_number HeadCut = refl
at_number WrongLength = refl
at_number UnknownKind = refl
at_number OutOfPlace = refl
at_number BadClose = refl
at_number ScheduleLong = refl
at_number NoRoom = refl
at_number NestedTooDeep = refl
at_number NoMembers = refl
at_number Unequal = refl
at_number NoPermutation = refl
at_number PastLimits = refl
at_number BodyCut = refl

pub number_some : (e : Refusal) → number_of e ≡ 0 → ⊥
number_some e h = let p = number_place e in omega arith

pub number_tells : (e f : Refusal) → number_of e ≡ number_of f → e ≡ f
number_tells e f h = rw (← at_number e, h, at_number f)

-- ---- of an answer: it is carried out exactly where its number is 0, and two answers of one number are both refused alike or neither
pub number_told : {A : Type 0} (r s : Result A Refusal) → ((a b : A) → a ≡ b) → refused_by r ≡ refused_by s → r ≡ s
number_told (Ok a) (Ok b) one h = rw (one a b)
number_told (Ok a) (Err f) one h = absurd (number_some f (sym h))
number_told (Err e) (Ok b) one h = absurd (number_some e h)
number_told (Err e) (Err f) one h = rw (number_tells e f h)
