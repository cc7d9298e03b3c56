-- What the panel program writes for a design. Definitions only. Assumes nothing.
use Rattle.std.specs.Prelude.{ℕ, ◌+◌, ◌-◌, ◌%◌, cond, List, [], ◌∷◌, ◌++◌, eqb}
use Rattle.text.specs.Text.{letters}
use Rattle.text.specs.Numbers.{decimal}
use Rattle.designs.specs.Panels.{feed_sheet}
use Rattle.designs.specs.Leaves.{Read, refused, made}
use Rattle.designs.specs.Designs.{design_of}

-- a word, two numbers and the line feed, one blank between the numbers
unfoldable pub two_line : List ℕ → ℕ → ℕ → List ℕ
two_line word a b = word ++ ((decimal a ++ letters " ") ++ (decimal b ++ letters "\n"))

-- refused N O: number, offset of the refused record
unfoldable pub refused_text : ℕ → ℕ → List ℕ
refused_text n o = two_line (letters "refused ") n o

-- behind place i of a feed sheet of width w: the line feed where its row ends, else a blank; 10 is the line feed, 32 the blank
unfoldable pub end_of : ℕ → ℕ → ℕ
end_of w i = cond (eqb (i % w) (w - 1)) 10 32

-- the places from place i of the sheet on, each with the byte behind it
unfoldable pub places_text : ℕ → ℕ → List ℕ → List ℕ
places_text w i [] = []
places_text w i (p ∷ rest) = (decimal p ++ (end_of w i ∷ [])) ++ places_text w (i + 1) rest

-- panel W D: width, depth; then a line for each row of the feed sheet, the exit row last
unfoldable pub sheet_text : ℕ → ℕ → List ℕ → List ℕ
sheet_text w d sheet = two_line (letters "panel ") w d ++ places_text w 0 sheet

unfoldable pub text_of : Read → List ℕ
text_of (refused x) = refused_text x.refusal x.offset
text_of (made p) = sheet_text p.width p.depth (feed_sheet p)

unfoldable pub panel_of : List ℕ → List ℕ
panel_of s = text_of (design_of s)
