-- A turn's answer: the document's number and values for each case (01, "A run"). Definitions only. Assumes nothing.
use Rattle.std.specs.Prelude.{ℕ, Bool, true, false, Result, Ok, Err}
use Rattle.order.specs.declared.Refusal.{Refusal}
use Rattle.order.specs.Order.{number_of}
use Rattle.moves.specs.declared.Turn.{Turn}
use Rattle.moves.specs.declared.Turn.TheVariants.{Passed as TurnPassed, Dealt as TurnDealt}

-- passed: the new level and wire, and the cell that was passed, by its layer, its number in the layer and the outlet; dealt: the
-- exit and the number; refused: the refusal's number
pub data Answer : Type 0 where
  Passed : ℕ → ℕ → ℕ → ℕ → ℕ → Answer
  Dealt : ℕ → ℕ → Answer
  Refused : ℕ → Answer

-- the answer of a turn that is carried out, and of one that may be refused
abbrev pub turned : Turn → Answer
turned (TurnPassed l v L c s) = Passed l v L c s
turned (TurnDealt i n) = Dealt i n

abbrev pub answered : Result Turn Refusal → Answer
answered (Ok t) = turned t
answered (Err e) = Refused (number_of e)

-- refusal: its number, 0 where the turn was carried out; passed: whether a cell was passed, and then the new level and wire, and
-- the cell by its layer, its number in the layer and the outlet taken, 0 the top; dealt: whether a number was dealt, and then the
-- exit and the number. What an answer does not have is 0: at an exit no cell is named.
pub record Values : Type 0 where
  pub refusal : ℕ
  pub passed : Bool
  pub level : ℕ
  pub wire : ℕ
  pub layer : ℕ
  pub cell : ℕ
  pub outlet : ℕ
  pub dealt : Bool
  pub exit : ℕ
  pub number : ℕ

unfoldable pub values_of : Answer → Values
values_of (Passed l v L c s) =
    record { refusal = 0; passed = true; level = l; wire = v; layer = L; cell = c; outlet = s; dealt = false; exit = 0; number = 0 }
values_of (Dealt i n) =
    record { refusal = 0; passed = false; level = 0; wire = 0; layer = 0; cell = 0; outlet = 0; dealt = true; exit = i; number = n }
values_of (Refused n) =
    record { refusal = n; passed = false; level = 0; wire = 0; layer = 0; cell = 0; outlet = 0; dealt = false; exit = 0; number = 0 }
