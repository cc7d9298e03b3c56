-- `panels::outermost` meets its contract. Assumes nothing.
use Rattle.designs.specs.Designs.{design_of}
use Rattle.panels.proofs.Going.{if_small}
use Rattle.panels.proofs.outermost.Goals as goal

pub returns-clause-outcome : goal.returns-clause-outcome
unfolding design_of
returns-clause-outcome c = c.record_reader.ensures

pub returns-clause-small : goal.returns-clause-small
unfolding design_of
returns-clause-small c = if_small _ _ c.record_reader.ensures.answer
