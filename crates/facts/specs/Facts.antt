-- The small facts of document 01, numbered as there. Definitions only. Assumes nothing.
use Rattle.std.specs.Prelude.{◌≡◌, List, [], ◌∷◌, ◌++◌, map, ℕ, ◌<◌}
use Rattle.network.specs.Widths.{depth_of}
use Rattle.network.specs.Rows.{row_of, sheet_of}
use Rattle.rest.specs.Share.{share}
use Rattle.run.specs.Run.{open_of, enter_of}
use Rattle.outcome.specs.Outcome.{Refused}
use Rattle.outcome.specs.Whole.{run_of}
use Rattle.outcome.specs.Case.{case_bytes}
use Rattle.text.specs.Text.{letters}
use Rattle.listing_text.specs.Listing.{listing_of}
use Rattle.promise.specs.History.{Call, enter, turn, Deal, history}

-- one request at BITONIC[4], whose depth is 3: it enters and takes all its turns
abbrev pub request : ℕ → ℕ → List Call
request t v = enter t v ∷ turn t ∷ turn t ∷ turn t ∷ turn t ∷ []

pub record Facts : Type 0 where
  -- 1. BITONIC[4] rows: 0 1 2 3; 0 2 3 1; 0 2 1 3
  pub one : sheet_of 4 1 ≡ 0 ∷ 1 ∷ 2 ∷ 3 ∷ 0 ∷ 2 ∷ 3 ∷ 1 ∷ 0 ∷ 2 ∷ 1 ∷ 3 ∷ []
  -- 2. PERIODIC[4] rows: 0 2 3 1; 0 2 1 3; then both again
  pub two : sheet_of 4 2 ≡ 0 ∷ 2 ∷ 3 ∷ 1 ∷ 0 ∷ 2 ∷ 1 ∷ 3 ∷ 0 ∷ 2 ∷ 3 ∷ 1 ∷ 0 ∷ 2 ∷ 1 ∷ 3 ∷ []
  -- 3. BITONIC[8] layer 3: 0 4 2 6 7 3 5 1
  pub three : row_of 8 1 3 ≡ 0 ∷ 4 ∷ 2 ∷ 6 ∷ 7 ∷ 3 ∷ 5 ∷ 1 ∷ []
  -- 4. BITONIC[8] layer 5: 0 2 4 6 1 3 5 7
  pub four : row_of 8 1 5 ≡ 0 ∷ 2 ∷ 4 ∷ 6 ∷ 1 ∷ 3 ∷ 5 ∷ 7 ∷ []
  -- 5. PERIODIC[8] layer 0: 0 4 6 2 3 7 5 1
  pub five : row_of 8 2 0 ≡ 0 ∷ 4 ∷ 6 ∷ 2 ∷ 3 ∷ 7 ∷ 5 ∷ 1 ∷ []
  -- 6. Depths at 64: 21, 36. At 1: 0, 0
  pub six : (depth_of 64 1 ≡ 21) × (depth_of 64 2 ≡ 36) × (depth_of 1 1 ≡ 0) × (depth_of 1 2 ≡ 0)
  -- 7. BITONIC[4], one token after another on entry wires 2, 0, 0, 3: they come out on wires 0, 1, 2, 3
  pub seven : map (λ (e : Deal). e.exit) (history 4 1 (request 0 2 ++ (request 1 0 ++ (request 2 0 ++ request 3 3)))).deals ≡ 0 ∷ 1 ∷ 2 ∷ 3 ∷ []
  -- 8. The listing case
  pub eight : listing_of case_bytes ≡ letters "network 2 bitonic\n5 1 1\n9 0 0\nrest 2\n"
  -- 9. m = 0: every share 0. m = 5, w = 4: shares 2, 1, 1, 1
  pub nine : ((w i : ℕ) → 0 < w → share 0 i w ≡ 0) × (share 5 0 4 ≡ 2) × (share 5 1 4 ≡ 1) × (share 5 2 4 ≡ 1) × (share 5 3 4 ≡ 1)
  -- 10. Empty schedule: 14, record 0, offset 0. Three bytes: 11
  pub ten : ((room : ℕ) → run_of [] room ≡ Refused 14 0 0 0) × ((a b c room : ℕ) → run_of (a ∷ b ∷ c ∷ []) room ≡ Refused 11 0 0 3)
  -- 11. Width 3: 1. Width 128: 1. Wire 4 at width 4: 5
  pub eleven : ((open_of 3 1).refusal ≡ 1) × ((open_of 128 1).refusal ≡ 1) × ((enter_of (open_of 4 1).run 0 4).refusal ≡ 5)
