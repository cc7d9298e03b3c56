-- A record written as bytes (01, "Schedule bytes"). Definitions only. Assumes nothing.
use Rattle.std.specs.Prelude.{ℕ, ◌≡◌, List, [], ◌∷◌, ◌++◌, cond, length, ltb, eqb, Result}
use Rattle.order.specs.declared.Refusal.{Refusal}
use Rattle.order.specs.Order.{◌⟶◌, first_of, filled_by, filled_of, over}
use Rattle.records.specs.declared.Record.{Record}
use Rattle.records.specs.declared.Record.TheVariants.{Open, Enter, Turn, Close, Number}
use Rattle.records.specs.Fields.{bytes_in}
use Rattle.records.specs.Reading.{length_of}

abbrev pub kind_of : Record → ℕ
kind_of (Open w c) = 1
kind_of (Enter t v) = 2
kind_of (Turn t) = 3
kind_of (Close e) = 4
kind_of (Number t v n) = 5

abbrev pub fields_of : Record → List ℕ
fields_of (Open w c) = bytes_in 2 w ++ bytes_in 2 c
fields_of (Enter t v) = bytes_in 2 t ++ bytes_in 2 v
fields_of (Turn t) = bytes_in 2 t
fields_of (Close e) = bytes_in 4 e
fields_of (Number t v n) = bytes_in 2 t ++ (bytes_in 2 v ++ bytes_in 4 n)

unfoldable pub size_of : Record → ℕ
size_of r = length_of (kind_of r)

unfoldable pub bytes_of : Record → List ℕ
bytes_of r = bytes_in 2 (size_of r) ++ (bytes_in 2 (kind_of r) ++ fields_of r)

-- 17 output room too small
unfoldable pub write_no : Record → ℕ → ℕ
write_no r room = first_of ((ltb room (size_of r) ⟶ 17) ∷ [])

-- what is answered, and the buffer after it: the record's bytes stand in front and the rest stays; a refusal changes nothing
pub record Writes (item : Record) (before : List ℕ) (r : Result ℕ Refusal) (after : List ℕ) : Type 0 where
  pub answer : filled_by r ≡ filled_of (write_no item (length before)) (size_of item)
  pub buffer : after ≡ cond (eqb (write_no item (length before)) 0) (over (bytes_of item) before) before
