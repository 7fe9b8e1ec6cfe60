use Rattle.std.proofs.Common.{drop, map, ◌+◌, ◌≡◌}
use Rattle.rules.specs.Fits.{block_number}
use Rattle.rules.specs.Answers.{first}
use Rattle.rules.specs.View.{rows_from}
use Rattle.fits.specs.Blocks.{store_in}
use Rattle.fits.proofs.fit_blocks.Given as goal

abbrev pub invariant-loop-i : goal.invariant-loop-i
invariant-loop-i l = first (2 + l.i-counter) (map (block_number (rows_from l.size l.rows) (store_in l.t)) (drop l.i-counter (store_in l.t))) ≡ first 2 (map (block_number (rows_from l.size l.rows) (store_in l.t)) (store_in l.t))
