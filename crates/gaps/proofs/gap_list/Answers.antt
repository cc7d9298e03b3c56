-- `gaps::gap_list` meets its contract: a sound run can be walked over, and the list of its counts is its own. Assumes nothing.
use mathlib.Core.Path.{sym}
use Rattle.network.proofs.Widths.{width_some, width_small}
use Rattle.run.proofs.Keeps.{parts}
use Rattle.gaps.proofs.Call.{few_entered_lem, can_walk, gaps_of_lem, gaps_unsound, gaps_sound}
use Rattle.gaps.proofs.gap_list.Goals as goal

pub returns-then-not-is_sound : goal.returns-then-not-is_sound
returns-then-not-is_sound c = gaps_unsound _ _ (sym c.if-not-is_sound.ensures) _

pub fill-requires : goal.fill-requires
fill-requires c =
    let p = parts _ (sym c.if-not-is_sound.ensures) in
    rw c.from-w.ensures (can_walk _ _ _ p.board (width_some _ p.width) (width_small _ p.width), few_entered_lem _ _ _ p.board)

pub returns : goal.returns
returns c = gaps_sound _ _ (sym c.if-not-is_sound.ensures) (gaps_of_lem _ _) (rw c.from-w.ensures at c.fill.ensures)
