-- Laws of `all` and `sum_of` over a list, for any element. In order: tests taken apart; the library's words; a loop that goes through
-- an array, by what is done and what is left; reads past the end; a store; one element; a list of one value.
-- Assumes nothing.
use mathlib.Core.Path.{◌≡◌, refl, sym, ◌∙◌}
use mathlib.Core.List.{List, [], ◌∷◌, map}
use mathlib.Core.Bool.{Bool, true, false, not, cond, ◌&&◌}
use Prim.Native.Nat.{ℕ, zero, suc, ◌+◌, ◌*◌, ◌<◌, ◌≤◌}
use native.Mathlib.Omega.{arith}
use lib.ListN.{length, take, drop, get_or, set, replicate, length-map, get_or-eq_default}
use Rattle.std.specs.List.{sum_by, list_any, list_all}
use Rattle.std.proofs.lemmas.List.{take_all}
use Rattle.std.proofs.lemmas.List.Recursion.{is_sum_by, same_from_clauses}
use Rattle.board.specs.Sound.{all, sum_of, itself}

-- ---- two tests that hold together
pub and_left : (a b : Bool) → a && b ≡ true → a ≡ true
and_left true b h = refl
and_left false b h = h

pub and_right : (a b : Bool) → a && b ≡ true → b ≡ true
and_right true b h = h
and_right false b h = let z : ◌≡◌ {A = ℕ} 0 1 = cc in absurd (omega arith)

-- what holds of both holds of the one that a test picks
pub cond_case : {A : Type 0} (P : A → Type 0) (b : Bool) (x y : A) → (b ≡ true → P x) → (b ≡ false → P y) → P (cond b x y)
cond_case P true x y f g = f refl
cond_case P false x y f g = g refl

-- ---- against the library's words
pub sum_of_is : {A : Type 0} (f : A → ℕ) (l : List A) → sum_of f l ≡ sum_by f l
unfolding sum_of
sum_of_is f = is_sum_by (sum_of f) f refl (λ _ _. refl)

pub all_is : {A : Type 0} (p : A → Bool) (l : List A) → all p l ≡ list_all p l
unfolding all
all_is p = same_from_clauses (all p) (list_all p) (λ a b. p a && b) refl (λ _ _. refl) (λ _ _. refl)

-- where no element passes a test that only `true` passes, all are false
pub none_down : (f : Bool → Bool) → f true ≡ true → f false ≡ false → (l : List Bool) → not (list_any f l) ≡ all not l
unfolding all
none_down f t u [] = refl
none_down f t u (true ∷ l) = rw t
none_down f t u (false ∷ l) = rw u (none_down f t u l)

-- a field that is an array of structs: its length is known of the structs' tuples
pub mapped : {A B : Type 0} (f : A → B) (l : List A) (n : ℕ) → length (map f l) ≡ n → length l ≡ n
mapped f l n e = sym (length-map l f) ∙ e

-- a loop over all of a list, which has gone by what it took
module _ {A : Type 0} (l : List A) (i : ℕ) (past : length l ≤ i) where
  pub all_taken : (p : A → Bool) (ok : Bool) → ok ≡ list_all p (take i l) → ok ≡ all p l
  all_taken p ok e = rw (take_all i l past) at e ∙ sym (all_is p l)

  pub sum_taken : (f : A → ℕ) (n : ℕ) → n ≡ sum_by f (take i l) → n ≡ sum_of f l
  sum_taken f n e = rw (take_all i l past) at e ∙ sym (sum_of_is f l)

module _ {A : Type 0} (d : A) (l : List A) where
  -- ---- past the end: what is read is the default, and a store changes nothing
  pub read_out : (n i : ℕ) → length l ≡ n → n ≤ i → d ≡ get_or l i d
  read_out n i e h =
      let k : length l ≤ i = omega arith in
      sym (get_or-eq_default l d k)

module _ {A : Type 0} where
  -- ---- a store
  pub all_set : (p : A → Bool) (l : List A) (i : ℕ) (v : A) → all p l ≡ true → p v ≡ true → all p (set l i v) ≡ true
  unfolding all
  all_set p [] i v h q = refl
  all_set p (a ∷ l) zero v h q = rw (q, and_right (p a) (all p l) h)
  all_set p (a ∷ l) (suc i) v h q = rw (and_left (p a) (all p l) h, all_set p l i v (and_right (p a) (all p l) h) q)

  pub sum_set : (d : A) (f : A → ℕ) (l : List A) (i : ℕ) (v : A) → i < length l → sum_of f (set l i v) + f (get_or l i d) ≡ sum_of f l + f v
  unfolding sum_of
  sum_set d f [] i v h = omega arith
  sum_set d f (a ∷ l) zero v h = omega arith
  sum_set d f (a ∷ l) (suc i) v h = omega (arith, sum_set d f l i v (omega arith))

  -- ---- one element
  pub all_at : (d : A) (p : A → Bool) (l : List A) (i : ℕ) → i < length l → all p l ≡ true → p (get_or l i d) ≡ true
  unfolding all
  all_at d p [] i h q = absurd (omega arith)
  all_at d p (a ∷ l) zero h q = and_left (p a) (all p l) q
  all_at d p (a ∷ l) (suc i) h q = all_at d p l i (omega arith) (and_right (p a) (all p l) q)

  -- ---- a list of one value
  pub all_replicate : (p : A → Bool) (a : A) (n : ℕ) → p a ≡ true → all p (replicate n a) ≡ true
  unfolding all
  all_replicate p a zero h = refl
  all_replicate p a (suc n) h = rw (h, all_replicate p a n h)

  pub all_drop : (p : A → Bool) (l : List A) (n : ℕ) → all p l ≡ true → all p (drop n l) ≡ true
  unfolding all
  all_drop p l zero h = h
  all_drop p [] (suc n) h = refl
  all_drop p (a ∷ l) (suc n) h = all_drop p l n (and_right (p a) (all p l) h)

  pub sum_replicate : (f : A → ℕ) (a : A) (n : ℕ) → f a ≡ 0 → sum_of f (replicate n a) ≡ 0
  unfolding sum_of
  sum_replicate f a zero h = refl
  sum_replicate f a (suc n) h = omega (arith, sum_replicate f a n h)

-- a sum of numbers that are at most m
pub sum_le : (m : ℕ) (l : List ℕ) → ((i : ℕ) → get_or l i 0 ≤ m) → sum_of itself l ≤ m * length l
unfolding sum_of
sum_le m [] h = omega arith
sum_le m (a ∷ l) h = omega (arith, h 0, sum_le m l (λ i. h (suc i)))

-- an element is at most the sum
pub elem_le : (l : List ℕ) (i : ℕ) → get_or l i 0 ≤ sum_of itself l
unfolding sum_of
elem_le [] i = omega arith
elem_le (a ∷ l) zero = omega arith
elem_le (a ∷ l) (suc i) = omega (arith, elem_le l i)
