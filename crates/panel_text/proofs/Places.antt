-- Laws of the places' text. In order: their most bytes; the loop that puts them. Assumes nothing.
use Prim.Native.Nat.{ℕ, ◌+◌, ◌*◌, ◌≤◌, ◌<◌}
use mathlib.Core.Path.{◌≡◌, refl}
use mathlib.Core.List.{List, [], ◌∷◌, ◌++◌}
use native.Mathlib.Omega.{arith}
use native.Mathlib.Numerals.{add-one}
use lib.ListN.{length, get_or, drop, length-append, drop_of_length-le}
use lib.Seq.{drop-cons}
use Rattle.text.specs.Text.{Puts}
use Rattle.text.specs.Numbers.{decimal}
use Rattle.text.proofs.Text.{Leads, leads_none, leads_on}
use Rattle.text.proofs.Numbers.{length_decimal}
use Rattle.panel_text.specs.Panel.{end_of, places_text}

-- ---- the most bytes
pub length_places : (w i : ℕ) (sheet : List ℕ) → length (places_text w i sheet) ≤ 21 * length sheet
unfolding places_text
length_places w i [] = omega arith
length_places w i (p ∷ rest) =
    simp length-append (omega (arith, length_decimal p, length_places w (i + 1) rest))

-- ---- the loop: the places left, put where the text has got to, give the whole
pub record Going (w : ℕ) (sheet : List ℕ) (at : ℕ) (out₀ : List ℕ) (next i : ℕ) (out : List ℕ) : Type 0 where
  pub leads : Leads (places_text w i (drop i sheet)) (places_text w 0 sheet) at out₀ next out

places_more : (w i : ℕ) (sheet : List ℕ) → i < length sheet
    → (decimal (get_or sheet i 0) ++ (end_of w i ∷ [])) ++ places_text w (i + 1) (drop (i + 1) sheet) ≡ places_text w i (drop i sheet)
unfolding places_text
places_more w i sheet h =
    let one : drop i sheet ≡ get_or sheet i 0 ∷ drop (i + 1) sheet = rw (add-one i) (drop-cons sheet i 0 h) in
    rw one refl

places_none : (w i : ℕ) (sheet : List ℕ) → length sheet ≤ i → places_text w i (drop i sheet) ≡ []
unfolding places_text
places_none w i sheet h = rw (drop_of_length-le sheet h)

module _ {w at next i : ℕ} {sheet out₀ out : List ℕ} (g : Going w sheet at out₀ next i out) where
  pub goes_on : i < length sheet → {place end next' : ℕ} {out' : List ℕ} → place ≡ get_or sheet i 0 → end ≡ end_of w i → Puts (decimal place ++ (end ∷ [])) next out next' out'
      → Going w sheet at out₀ next' (i + 1) out'
  goes_on h f e p = record { leads = leads_on _ (rw (places_more w i sheet h) g.leads) (rw (f, e) at p) }

  pub ends : length sheet ≤ i → Puts (places_text w 0 sheet) at out₀ next out
  ends h = leads_none (rw (places_none w i sheet h) at g.leads)
