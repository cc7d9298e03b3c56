-- Worked cases of designs (02, P3). The statements only; the proof is `cases` of proofs/Cases. Assumes nothing.
use Rattle.std.specs.Prelude.{ℕ, ◌≡◌, List, [], ◌∷◌, ◌++◌}
use Rattle.designs.specs.Panels.{feed_sheet}
use Rattle.designs.specs.Leaves.{Read, refused, made, fault}
use Rattle.designs.specs.Designs.{design_of}

-- the feed sheet of a design, and no bytes where it is refused
unfoldable pub feed_of : Read → List ℕ
feed_of (refused x) = []
feed_of (made p) = feed_sheet p

-- one cell, and two side by side
abbrev pub one_cell : List ℕ
one_cell = 4 ∷ 0 ∷ 18 ∷ 0 ∷ []

abbrev pub two_cells : List ℕ
two_cells = 12 ∷ 0 ∷ 17 ∷ 0 ∷ one_cell ++ one_cell

-- BITONIC[4] by its name, and spelt by cells, besides and crosses
abbrev pub bitonic4 : List ℕ
bitonic4 = 8 ∷ 0 ∷ 19 ∷ 0 ∷ 4 ∷ 0 ∷ 1 ∷ 0 ∷ []

abbrev pub spelt4 : List ℕ
spelt4 =
    58 ∷ 0 ∷ 16 ∷ 0
    ∷ two_cells ++ 9 ∷ 0 ∷ 20 ∷ 0 ∷ 4 ∷ 0 ∷ 2 ∷ 3 ∷ 1
    ∷ two_cells ++ 9 ∷ 0 ∷ 20 ∷ 0 ∷ 4 ∷ 0 ∷ 2 ∷ 1 ∷ 3
    ∷ two_cells

-- three wires that go round, twice over; a cell beside a cell beside a cell, after a cross that turns the wires about
abbrev pub three_wires : List ℕ
three_wires = 20 ∷ 0 ∷ 16 ∷ 0 ∷ 8 ∷ 0 ∷ 20 ∷ 0 ∷ 3 ∷ 1 ∷ 2 ∷ 0 ∷ 8 ∷ 0 ∷ 20 ∷ 0 ∷ 3 ∷ 1 ∷ 2 ∷ 0 ∷ []

abbrev pub six_wires : List ℕ
six_wires =
    31 ∷ 0 ∷ 16 ∷ 0 ∷ 11 ∷ 0 ∷ 20 ∷ 0 ∷ 6 ∷ 5 ∷ 4 ∷ 3 ∷ 2 ∷ 1 ∷ 0
    ∷ 16 ∷ 0 ∷ 17 ∷ 0 ∷ one_cell ++ one_cell ++ one_cell

pub record Cases : Type 0 where
  pub cell_feeds : feed_of (design_of one_cell) ≡ 0 ∷ 1 ∷ 0 ∷ 1 ∷ []
  pub spelt_is_named : feed_of (design_of spelt4) ≡ feed_of (design_of bitonic4)
  pub named_feeds : feed_of (design_of bitonic4) ≡ 0 ∷ 1 ∷ 2 ∷ 3 ∷ 0 ∷ 2 ∷ 3 ∷ 1 ∷ 0 ∷ 2 ∷ 1 ∷ 3 ∷ 0 ∷ 1 ∷ 2 ∷ 3 ∷ []
  pub three_feed : feed_of (design_of three_wires) ≡ 2 ∷ 0 ∷ 1 ∷ []
  pub six_feed : feed_of (design_of six_wires) ≡ 5 ∷ 4 ∷ 3 ∷ 2 ∷ 1 ∷ 0 ∷ 0 ∷ 1 ∷ 2 ∷ 3 ∷ 4 ∷ 5 ∷ []
  -- no bytes; a byte after the outermost record
  pub no_bytes : design_of [] ≡ refused (fault 0 11)
  pub byte_after : design_of (one_cell ++ 0 ∷ []) ≡ refused (fault 0 12)
  -- cut bodies: a member longer than its parent, the same where bytes stand behind the parent, a cross without its width byte
  pub past_parent : design_of (8 ∷ 0 ∷ 16 ∷ 0 ∷ 8 ∷ 0 ∷ 19 ∷ 0 ∷ []) ≡ refused (record { refusal = 23; offset = 4; present = 4 })
  pub cut_within : design_of (16 ∷ 0 ∷ 16 ∷ 0 ∷ 8 ∷ 0 ∷ 16 ∷ 0 ∷ 8 ∷ 0 ∷ 19 ∷ 0 ∷ one_cell) ≡ refused (record { refusal = 23; offset = 8; present = 4 })
  pub no_width_byte : design_of (6 ∷ 0 ∷ 20 ∷ 0 ∷ []) ≡ refused (record { refusal = 23; offset = 0; present = 4 })
