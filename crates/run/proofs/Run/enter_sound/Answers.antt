-- `run::Run::enter_sound` meets its contract: a sound run has room in its count of entries. Assumes nothing.
use Rattle.board.proofs.Sound as board
use Rattle.run.proofs.Keeps.{parts}
use Rattle.run.proofs.Run.enter_sound.Goals as goal

pub enter-entered-requires : goal.enter-entered-requires
enter-entered-requires c = (board.parts _ _ _ (parts _ c.requires).board).few
