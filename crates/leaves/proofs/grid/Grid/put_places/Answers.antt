-- `leaves::grid::Grid::put_places` meets its contract: one row is another where the places fit. Assumes nothing.
use Rattle.std.proofs.Common.{rules}
use Rattle.leaves.proofs.Filling.{row_put}
use Rattle.leaves.proofs.grid.Grid.put_places.Goals as goal

pub returns-then-fits : goal.returns-then-fits
returns-then-fits c = row_put _ _ _ _ (search rules) (c.fits.ensures.0 c.if-fits.true).0 c.fill.ensures.beside (λ v h. let p = c.fill.ensures.there v h in search rules)
