-- Laws of `tabulate` and `array_of`: a row as a list and in an array. Assumes nothing.
use mathlib.Core.Path.{◌≡◌, refl, sym, ap, ◌∙◌}
use mathlib.Core.List.{List, ◌++◌}
use Prim.Native.Nat.{ℕ, zero, suc, ◌+◌, ◌-◌, ◌<◌, ◌≤◌}
use native.Mathlib.Nat.{le_of_suc-le-suc, not-suc-le-zero}
use native.Mathlib.Omega.{arith}
use native.Mathlib.Decide.{dec_lt}
use lib.ListN.{length, get_or, take, replicate, length-append, length-replicate, get_or-append}
use lib.Seq.{get_or-append-add, ext_get_or, take_at}
use Rattle.network.specs.Rows.{tabulate, array_of}

pub length_tabulate : (f : ℕ → ℕ) (n : ℕ) → length (tabulate f n) ≡ n
unfolding tabulate
length_tabulate f zero = refl
length_tabulate f (suc n) = ap suc (length_tabulate (λ i. f (suc i)) n)

pub get_d_tabulate : (f : ℕ → ℕ) (n i : ℕ) → i < n → get_or (tabulate f n) i 0 ≡ f i
unfolding tabulate
get_d_tabulate f zero i l = absurd (not-suc-le-zero l)
get_d_tabulate f (suc n) zero l = refl
get_d_tabulate f (suc n) (suc i) l = get_d_tabulate (λ i. f (suc i)) n i (le_of_suc-le-suc l)

-- two rows that agree on their wires are one list
pub tabulate_ext : (f g : ℕ → ℕ) (n : ℕ) → ((i : ℕ) → i < n → f i ≡ g i) → tabulate f n ≡ tabulate g n
tabulate_ext f g n h =
    ext_get_or 0 (tabulate f n) (tabulate g n) (length_tabulate f n ∙ sym (length_tabulate g n))
    (λ i l.
    let m : i < n = omega (arith, length_tabulate f n) in
    get_d_tabulate f n i m ∙ h i m ∙ sym (get_d_tabulate g n i m))

pub get_or_zeros : (n v : ℕ) → ◌≡◌ {A = ℕ} (get_or (replicate n 0) v 0) 0
get_or_zeros zero v = refl
get_or_zeros (suc n) zero = refl
get_or_zeros (suc n) (suc v) = get_or_zeros n v

-- ---- the array a holds the row f of n wires, and zeros after it
pub record RowIs (a : List ℕ) (n : ℕ) (f : ℕ → ℕ) : Type 0 where
  pub at : (v : ℕ) → v < n → get_or a v 0 ≡ f v
  pub rest : (v : ℕ) → n ≤ v → get_or a v 0 ≡ 0

module _ (f : ℕ → ℕ) (n : ℕ) where
  pub array_is : RowIs (array_of f n) n f
  unfolding array_of
  array_is = record {
    at = λ v l.
        let m : v < length (tabulate f n) = omega (arith, length_tabulate f n) in
        get_or-append (tabulate f n) (replicate (64 - n) 0) 0 v m ∙ get_d_tabulate f n v l;
    rest = λ v l.
        let e : v ≡ length (tabulate f n) + (v - n) = omega (arith, length_tabulate f n) in
        ap (λ (i : ℕ). get_or (tabulate f n ++ replicate (64 - n) 0) i 0) e
        ∙ get_or-append-add (tabulate f n) (replicate (64 - n) 0) (v - n) 0
        ∙ get_or_zeros (64 - n) (v - n);
  }

  length_array : n ≤ 64 → length (array_of f n) ≡ 64
  unfolding array_of
  length_array l = simp length-append (omega (arith, length_tabulate f n, length-replicate {A = ℕ} (64 - n) 0))

  -- an array that holds the row is the row's
  pub row→array : (a : List ℕ) → n ≤ 64 → length a ≡ 64 → RowIs a n f → a ≡ array_of f n
  row→array a l e r =
      ext_get_or 0 a (array_of f n) (e ∙ sym (length_array l))
      (λ v m. elim (dec_lt v n) [
        | yes h ↦ r.at v h ∙ sym (array_is.at v h)
        | no h ↦ r.rest v (omega arith) ∙ sym (array_is.rest v (omega arith))
      ])

  pub take_array : take n (array_of f n) ≡ tabulate f n
  unfolding array_of
  take_array = take_at (tabulate f n) (replicate (64 - n) 0) n (length_tabulate f n)
