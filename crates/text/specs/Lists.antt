-- Lists as text: entries with commas between them, `-` where there are none. Definitions only. Assumes nothing.
use Rattle.std.specs.Prelude.{ℕ, ◌+◌, Bool, cond, List, [], ◌∷◌, ◌++◌, map}
use Rattle.text.specs.Text.{letters, each}
use Rattle.text.specs.Numbers.{decimal}

-- an entry behind another
unfoldable pub behind_comma : List ℕ → List ℕ
behind_comma entry = letters "," ++ entry

unfoldable pub listed : List (List ℕ) → List ℕ
listed [] = letters "-"
listed (entry ∷ rest) = entry ++ each behind_comma rest

-- a list of numbers
abbrev pub number_list : List ℕ → List ℕ
number_list values = listed (map decimal values)

-- the entries of those members that are shown, each with its index, the first of which is i
unfoldable pub indexed : {A : Type 0} → (A → Bool) → (ℕ → A → List ℕ) → ℕ → List A → List (List ℕ)
indexed shown entry i [] = []
indexed shown entry i (x ∷ rest) = cond (shown x) (entry i x ∷ []) [] ++ indexed shown entry (i + 1) rest

-- ---- a list, entry by entry: `some` says whether an entry stands in front
unfoldable pub comma_if : Bool → List ℕ
comma_if some = cond some (letters ",") []

unfoldable pub dash_unless : Bool → List ℕ
dash_unless some = cond some [] (letters "-")

-- an entry that is shown, or nothing
unfoldable pub entry_if : Bool → Bool → List ℕ → List ℕ
entry_if shown some entry = cond shown (comma_if some ++ entry) []
