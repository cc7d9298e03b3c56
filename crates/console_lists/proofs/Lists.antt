-- Laws of lists: what is left of one decides. In order: an entry that is none; one entry more; the end. Assumes nothing.
use Prim.Native.Nat.{ℕ, ◌+◌, ◌≤◌, ◌<◌}
use mathlib.Core.Path.{◌≡◌, sym, ◌∙◌}
use mathlib.Core.Bool.{true, false, ◌&&◌}
use mathlib.Core.List.{List}
use lib.ListN.{length, drop, get_or}
use Rattle.std.proofs.Common.{Some, None}
use Rattle.std.specs.Bool.{then_some}
use Rattle.std.proofs.lemmas.List.{at_drop_more, at_drop_all}
use Rattle.console_lists.specs.declared.Entries.{Entries}
use Rattle.console_lists.specs.Entries.{is_entry, next_of}
use Rattle.console_lists.specs.Lists.{are_entries}
use Rattle.console_lists.proofs.Judged.{none_tells, some_tells}

-- the parts that are left, from `least` on, decide of all
module _ (kind : Entries) (parts : List (List ℕ)) (read least : ℕ) (left : are_entries kind parts 0 ≡ are_entries kind (drop read parts) least) where
  left_first : (part : List ℕ) → (read < length parts) × (part ≡ get_or parts read part) → are_entries kind parts 0 ≡ (is_entry kind part least && are_entries kind (drop (read + 1) parts) (next_of part))
  unfolding are_entries
  left_first part at = left ∙ at_drop_more (λ rest. are_entries kind rest least) parts read part at.0 ∙ rw (← at.1)

  pub left_none : (part : List ℕ) → (read < length parts) × (part ≡ get_or parts read part) → None ≡ then_some (is_entry kind part least) (next_of part) → false ≡ are_entries kind parts 0
  left_none part at none = sym (left_first part at ∙ rw (none_tells _ _ none))

  pub left_more : (part : List ℕ) (next : ℕ) → (read < length parts) × (part ≡ get_or parts read part) → Some next ≡ then_some (is_entry kind part least) (next_of part) → are_entries kind parts 0 ≡ are_entries kind (drop (read + 1) parts) next
  left_more part next at some =
      let is = some_tells (is_entry kind part least) (next_of part) next some in
      left_first part at ∙ rw (is.0, is.1)

  pub left_all : length parts ≤ read → true ≡ are_entries kind parts 0
  unfolding are_entries
  left_all last = sym (left ∙ at_drop_all (λ rest. are_entries kind rest least) parts read last)
