-- Laws of a list's members: one more that is shown, and one more that is not; a `bool` as a number. Assumes nothing.
use Prim.Native.Nat.{ℕ, ◌+◌, ◌<◌}
use mathlib.Core.Path.{◌≡◌, refl}
use mir.Val.{bool_byte}
use mathlib.Core.Bool.{Bool, true, false, cond, or-true, or-false}
use mathlib.Core.List.{List}
use lib.ListN.{length, get_or}
use Rattle.text.specs.Text.{Puts}
use Rattle.text.specs.Lists.{comma_if, entry_if}
use Rattle.text.proofs.Lists.{Members, entry_none, entry_one, member_on}

module _ {A : Type 0} {shown : A → Bool} {entry : ℕ → A → List ℕ} {members : List A} {out₀ out : List ℕ} {at next i : ℕ} {some : Bool} (passed : Members shown entry members at out₀ next some i out) (more : i < length members) (x : A) (here : x ≡ get_or members i x) where
  pub member_shown : shown x ≡ true → {behind next' : ℕ} {out' out'' : List ℕ} → Puts (comma_if some) next out behind out' → Puts (entry i x) behind out' next' out'' → Members shown entry members at out₀ next' true (i + 1) out''
  member_shown is {next' = next'} {out''} comma put =
      let one : Puts (entry_if (shown (get_or members i x)) some (entry i (get_or members i x))) next out next' out'' = rw (← here) (entry_one some (entry i x) is comma put) in
      rw (← here, is, or-true) at (member_on passed x more one)

  pub member_hidden : shown x ≡ false → Members shown entry members at out₀ next some (i + 1) out
  member_hidden is =
      let none : Puts (entry_if (shown (get_or members i x)) some (entry i (get_or members i x))) next out next out = rw (← here) (entry_none some (entry i x) is) in
      rw (← here, is, or-false) at (member_on passed x more none)

-- what a `bool` is as a number
pub one_of : (b : Bool) → bool_byte b ≡ cond b 1 0
one_of true = refl
one_of false = refl
