use Rattle.std.proofs.Common.{◌≡◌}
use Rattle.fits.specs.Blocks.{block_fits, store_in}
use Rattle.fits.proofs.Laws.{cells_from}
use Rattle.rules.specs.View.{rows_from}
use Rattle.fits.proofs.cells_fit.Given as goal

abbrev pub invariant-loop-o : goal.invariant-loop-o
invariant-loop-o l = cells_from (rows_from l.size l.rows) (store_in l.t) l.k l.o ≡ block_fits (rows_from l.size l.rows) (store_in l.t) l.k
