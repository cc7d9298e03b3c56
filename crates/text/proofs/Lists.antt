-- Laws of lists as text. In order: a list of which entries are still to come; numbers; members with their indexes. Assumes nothing.
use Prim.Native.Nat.{ℕ, ◌+◌, ◌≤◌, ◌<◌}
use mathlib.Core.Path.{◌≡◌, refl, ap}
use mathlib.Core.Bool.{Bool, true, false, cond, ◌||◌}
use mathlib.Core.List.{List, [], ◌∷◌, ◌++◌, map}
use native.Mathlib.Omega.{arith}
use native.Mathlib.Numerals.{add-one}
use lib.ListN.{length, get_or, drop, drop_of_length-le}
use lib.Seq.{drop-cons}
use lib.Dec.{ltb}
use borrow.Author.Tests.{lt-ltb}
use Rattle.text.specs.Text.{letters, each, Puts}
use Rattle.text.specs.Numbers.{decimal}
use Rattle.text.specs.Lists.{behind_comma, listed, number_list, indexed, comma_if, dash_unless, entry_if}
use Rattle.text.proofs.Text.{Leads, leads_all, leads_on, leads_last, puts_none, puts_then}

-- the rest of a list: `some` says whether an entry stands in front
unfoldable pub left : Bool → List (List ℕ) → List ℕ
left some [] = dash_unless some
left some (entry ∷ rest) = comma_if some ++ (entry ++ left true rest)

left_some : (entries : List (List ℕ)) → left true entries ≡ each behind_comma entries
unfolding left each behind_comma comma_if dash_unless letters
left_some [] = refl
left_some (entry ∷ rest) = ap (λ (l : List ℕ). 44 ∷ (entry ++ l)) (left_some rest)

pub left_all : (entries : List (List ℕ)) → left false entries ≡ listed entries
unfolding left listed comma_if dash_unless
left_all [] = refl
left_all (entry ∷ rest) = ap (λ (l : List ℕ). entry ++ l) (left_some rest)

left_more : (shown some : Bool) (entry : List ℕ) (rest : List (List ℕ))
    → entry_if shown some entry ++ left (some || shown) rest ≡ left some (cond shown (entry ∷ []) [] ++ rest)
unfolding left entry_if comma_if letters
left_more true true entry rest = refl
left_more true false entry rest = refl
left_more false true entry rest = refl
left_more false false entry rest = refl

-- ---- one entry
module _ {shown : Bool} (some : Bool) (entry : List ℕ) {out : List ℕ} {at : ℕ} where
  pub entry_none : shown ≡ false → Puts (entry_if shown some entry) at out at out
  unfolding entry_if
  entry_none h = rw h (puts_none out at)

  pub entry_one : shown ≡ true → {behind next : ℕ} {out' out'' : List ℕ} → Puts (comma_if some) at out behind out' → Puts entry behind out' next out''
      → Puts (entry_if shown some entry) at out next out''
  unfolding entry_if
  entry_one h p q = rw h (puts_then p q)

-- ---- numbers, i of them passed
pub record Numbers (values : List ℕ) (at : ℕ) (out₀ : List ℕ) (next i : ℕ) (out : List ℕ) : Type 0 where
  pub leads : Leads (left (ltb 0 i) (map decimal (drop i values))) (number_list values) at out₀ next out

pub numbers_none : (values : List ℕ) (at : ℕ) (out : List ℕ) → Numbers values at out at 0 out
numbers_none values at out = record { leads = rw (left_all (map decimal values)) (leads_all (number_list values) at out) }

number_more : (values : List ℕ) (i : ℕ) → i < length values
    → comma_if (ltb 0 i) ++ (decimal (get_or values i 0) ++ left (ltb 0 (i + 1)) (map decimal (drop (i + 1) values))) ≡ left (ltb 0 i) (map decimal (drop i values))
unfolding left
number_more values i h = rw (lt-ltb 0 (i + 1) (omega arith), add-one i, drop-cons values i 0 h)

module _ {values out₀ out : List ℕ} {at next i : ℕ} (n : Numbers values at out₀ next i out) where
  pub number_on : i < length values → {behind next' : ℕ} {out' out'' : List ℕ} → Puts (comma_if (ltb 0 i)) next out behind out'
      → Puts (decimal (get_or values i 0)) behind out' next' out'' → Numbers values at out₀ next' (i + 1) out''
  number_on h p q = record { leads = leads_on _ (leads_on _ (rw (number_more values i h) n.leads) p) q }

  pub numbers_all : length values ≤ i → i ≤ length values → {last : ℕ} {out' : List ℕ} → Puts (dash_unless (ltb 0 (length values))) next out last out' → Puts (number_list values) at out₀ last out'
  unfolding left
  numbers_all h within p =
      let e : i ≡ length values = omega arith in
      leads_last (rw (drop_of_length-le values h) at n.leads) (rw (← e) at p)

-- ---- members with their indexes, i of them passed; `some` says whether one of them was shown
pub record Members {A : Type 0} (shown : A → Bool) (entry : ℕ → A → List ℕ) (members : List A) (at : ℕ) (out₀ : List ℕ) (next : ℕ) (some : Bool) (i : ℕ) (out : List ℕ) : Type 0 where
  pub leads : Leads (left some (indexed shown entry i (drop i members))) (listed (indexed shown entry 0 members)) at out₀ next out

pub members_none : {A : Type 0} (shown : A → Bool) (entry : ℕ → A → List ℕ) (members : List A) (at : ℕ) (out : List ℕ)
    → Members shown entry members at out at false 0 out
members_none shown entry members at out = record { leads = rw (left_all (indexed shown entry 0 members)) (leads_all _ at out) }

member_more : {A : Type 0} (shown : A → Bool) (entry : ℕ → A → List ℕ) (members : List A) (d : A) (some : Bool) (i : ℕ) → i < length members
    → entry_if (shown (get_or members i d)) some (entry i (get_or members i d)) ++ left (some || shown (get_or members i d)) (indexed shown entry (i + 1) (drop (i + 1) members)) ≡ left some (indexed shown entry i (drop i members))
unfolding indexed
member_more shown entry members d some i h =
    let one : drop i members ≡ get_or members i d ∷ drop (i + 1) members = rw (add-one i) (drop-cons members i d h) in
    rw one (left_more (shown (get_or members i d)) some (entry i (get_or members i d)) _)

module _ {A : Type 0} {shown : A → Bool} {entry : ℕ → A → List ℕ} {members : List A} {out₀ out : List ℕ} {at next i : ℕ} {some : Bool} (m : Members shown entry members at out₀ next some i out) where
  pub member_on : (d : A) → i < length members → {next' : ℕ} {out' : List ℕ} → Puts (entry_if (shown (get_or members i d)) some (entry i (get_or members i d))) next out next' out'
      → Members shown entry members at out₀ next' (some || shown (get_or members i d)) (i + 1) out'
  member_on d h p = record { leads = leads_on _ (rw (member_more shown entry members d some i h) m.leads) p }

  pub members_all : length members ≤ i → {last : ℕ} {out' : List ℕ} → Puts (dash_unless some) next out last out'
      → Puts (listed (indexed shown entry 0 members)) at out₀ last out'
  unfolding left indexed
  members_all h p = leads_last (rw (drop_of_length-le members h) at m.leads) p
