use Rattle.std.proofs.Common.{length, ◌-◌, ◌≡◌}
use Rattle.rules.specs.Store.Text.{cells_from}
use Rattle.tally.proofs.cells_from.Given as goal

abbrev pub invariant-loop-count : goal.invariant-loop-count
invariant-loop-count l = cells_from l.s (length l.s - l.count) l.count l.i ≡ cells_from l.s (length l.s) 0 l.at
