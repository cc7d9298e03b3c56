-- Laws of text that goes into a buffer. In order: text behind text; one byte; text of which a part is still to come; text byte by
-- byte; the texts of a list's members; place and buffer where the text fits. Assumes nothing.
use Prim.Native.Nat.{ℕ, suc, ◌+◌, ◌-◌, ◌^◌, ◌≤◌, ◌<◌}
use Rattle.std.proofs.Common.{min}
use Rattle.std.proofs.lemmas.Bool.Decides.{nat_tests}
use mathlib.Core.Path.{◌≡◌, refl, ◌∙◌, ap}
use mathlib.Core.List.{List, [], ◌∷◌, ◌++◌}
use native.Mathlib.Omega.{arith}
use native.Mathlib.Nat.{zero-add}
use native.Mathlib.Numerals.{add-one}
use lib.ListN.{length, get_or, drop, set, length-set, drop_of_length-le}
use lib.Seq.{set_out, drop-cons, sets, sets-eq}
use borrow.Author.Tests.{lt-ltb}
use Rattle.text.specs.Text.{each, next_place, place_behind, stored, Puts}

-- ---- text behind text
behind_append : (at : ℕ) (a b : List ℕ) → place_behind (place_behind at a) b ≡ place_behind at (a ++ b)
unfolding place_behind
behind_append at [] b = refl
behind_append at (x ∷ a) b = behind_append (next_place at) a b

stored_append : (out : List ℕ) (at : ℕ) (a b : List ℕ) → stored (stored out at a) (place_behind at a) b ≡ stored out at (a ++ b)
unfolding place_behind stored
stored_append out at [] b = refl
stored_append out at (x ∷ a) b = stored_append (set out at x) (next_place at) a b

pub puts_then : {a b s s' s'' : List ℕ} {at next last : ℕ} → Puts a at s next s' → Puts b next s' last s'' → Puts (a ++ b) at s last s''
puts_then {a} {b} {s} {at = at} p q =
    record {
      place = q.place ∙ rw p.place (behind_append at a b);
      buffer = q.buffer ∙ rw (p.buffer, p.place) (stored_append s at a b);
    }

pub puts_none : (out : List ℕ) (at : ℕ) → Puts [] at out at out
unfolding place_behind stored
puts_none out at = record { place = refl; buffer = refl }

length_stored : (out : List ℕ) (at : ℕ) (text : List ℕ) → length (stored out at text) ≡ length out
unfolding stored
length_stored out at [] = refl
length_stored out at (b ∷ text) = length_stored (set out at b) (next_place at) text ∙ length-set out at b

pub puts_length : {a s s' : List ℕ} {at next : ℕ} → Puts a at s next s' → length s' ≡ length s
puts_length {a} {s} {at = at} p = ap length p.buffer ∙ length_stored s at a

-- ---- one byte
-- the place behind a number of the machine
pub next_is : (at : ℕ) → at < 2 ^ 64 → min (at + 1) (2 ^ 64 - 1) ≡ next_place at
unfolding next_place
next_is at fits = grind (arith, nat_tests)

module _ {out : List ℕ} {at next : ℕ} (b : ℕ) (is-next : next ≡ next_place at) where
  pub puts_inside : Puts (b ∷ []) at out next (set out at b)
  unfolding place_behind stored
  puts_inside = record { place = is-next; buffer = refl }

  pub puts_outside : length out ≤ at → Puts (b ∷ []) at out next out
  unfolding place_behind stored
  puts_outside past = record { place = is-next; buffer = rw (set_out out at b past) }

-- ---- a part still to come: put where the text has got to, it gives the whole
pub record Leads (rest whole : List ℕ) (at : ℕ) (out₀ : List ℕ) (next : ℕ) (out : List ℕ) : Type 0 where
  pub place : place_behind next rest ≡ place_behind at whole
  pub buffer : stored out next rest ≡ stored out₀ at whole
  pub same : length out ≡ length out₀

pub leads_all : (whole : List ℕ) (at : ℕ) (out : List ℕ) → Leads whole whole at out at out
leads_all whole at out = record { place = refl; buffer = refl; same = refl }

module _ {whole out₀ out : List ℕ} {at next : ℕ} where
  pub leads_none : Leads [] whole at out₀ next out → Puts whole at out₀ next out
  unfolding place_behind stored
  leads_none l = record { place = l.place; buffer = l.buffer }

  pub leads_on : {a out' : List ℕ} {next' : ℕ} (b : List ℕ) → Leads (a ++ b) whole at out₀ next out → Puts a next out next' out' → Leads b whole at out₀ next' out'
  leads_on {a} b l p =
      record {
        place = rw (p.place, behind_append next a b) l.place;
        buffer = rw (p.buffer, p.place, stored_append out next a b) l.buffer;
        same = puts_length p ∙ l.same;
      }

  pub leads_last : {rest out' : List ℕ} {next' : ℕ} → Leads rest whole at out₀ next out → Puts rest next out next' out' → Puts whole at out₀ next' out'
  leads_last l p = record { place = p.place ∙ l.place; buffer = p.buffer ∙ l.buffer }

-- ---- text byte by byte, i of them passed
module _ {text out₀ out : List ℕ} {at next i : ℕ} (l : Leads (drop i text) text at out₀ next out) where
  pub byte_on : i < length text → {next' : ℕ} {out' : List ℕ} → Puts (get_or text i 0 ∷ []) next out next' out' → Leads (drop (i + 1) text) text at out₀ next' out'
  byte_on h p = leads_on _ (rw (add-one i, ← drop-cons text i 0 h) l) p

  pub bytes_all : length text ≤ i → Puts text at out₀ next out
  bytes_all h = leads_none (rw (drop_of_length-le text h) at l)

-- ---- the texts of a list's members, i of them passed
pub record Going {A : Type 0} (text : A → List ℕ) (values : List A) (at : ℕ) (out₀ : List ℕ) (next i : ℕ) (out : List ℕ) : Type 0 where
  pub leads : Leads (each text (drop i values)) (each text values) at out₀ next out

each_more : {A : Type 0} (text : A → List ℕ) (values : List A) (d : A) (i : ℕ) → i < length values
    → text (get_or values i d) ++ each text (drop (i + 1) values) ≡ each text (drop i values)
unfolding each
each_more text values d i h = rw (add-one i, drop-cons values i d h)

each_none : {A : Type 0} (text : A → List ℕ) (values : List A) (i : ℕ) → length values ≤ i → each text (drop i values) ≡ []
unfolding each
each_none text values i h = rw (drop_of_length-le values h)

module _ {A : Type 0} {text : A → List ℕ} {values : List A} {out₀ out : List ℕ} {at next i : ℕ} (g : Going text values at out₀ next i out) where
  pub going_more : (d : A) → i < length values → {next' : ℕ} {out' : List ℕ} → Puts (text (get_or values i d)) next out next' out' → Going text values at out₀ next' (i + 1) out'
  going_more d h p = record { leads = leads_on _ (rw (each_more text values d i h) g.leads) p }

  pub going_all : length values ≤ i → Puts (each text values) at out₀ next out
  going_all h = leads_none (rw (each_none text values i h) at g.leads)

-- ---- where the places are numbers of the machine
pub behind_is : (at : ℕ) (text : List ℕ) → at + length text < 2 ^ 64 → place_behind at text ≡ at + length text
unfolding place_behind next_place
behind_is at [] h = omega arith
behind_is at (b ∷ text) h =
    rw (lt-ltb at 18446744073709551615 (omega arith)) (behind_is (at + 1) text (omega arith) ∙ omega arith)

stored_sets : (out : List ℕ) (at : ℕ) (text : List ℕ) → at + length text < 2 ^ 64 → stored out at text ≡ sets out at text
unfolding stored next_place
stored_sets out at [] h = refl
stored_sets out at (b ∷ text) h =
    rw (lt-ltb at 18446744073709551615 (omega arith), add-one at) (stored_sets (set out at b) (suc at) text (omega arith))

-- a text in front of a buffer that has room for it
pub stored_front : (out text : List ℕ) → length text ≤ length out → length text < 2 ^ 64 → stored out 0 text ≡ text ++ drop (length text) out
stored_front out text h few =
    stored_sets out 0 text (omega arith) ∙ (sets-eq text out 0 (omega arith) ∙ rw (zero-add (length text)))
