-- `board::toggles_up` meets its contract. Assumes nothing.
use mathlib.Core.Bool.{not}
use mathlib.Core.Path.{refl, ap, ◌∙◌}
use Rattle.board.specs.Sound.{all}
use Rattle.board.proofs.Lists.{none_down}
use Rattle.board.proofs.toggles_up.Goals as goal

pub returns : goal.returns
returns c = ap not c.contains.ensures.value ∙ none_down _ refl refl _ ∙ ap (all not) c.beyond.ensures
