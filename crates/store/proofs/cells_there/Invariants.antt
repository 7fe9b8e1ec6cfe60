use Rattle.std.proofs.Common.{◌+◌, ◌-◌, ◌≡◌, ◌≤◌}
use Rattle.rules.specs.Store.Fill.{cells_there}
use Rattle.store.proofs.cells_there.Given as goal

abbrev pub invariant-loop : goal.invariant-loop
invariant-loop l = (l.i + (l.n - l.counter) ≤ 81920) × (cells_there l.s l.blocks (l.n - l.counter) l.i ≡ cells_there l.s l.blocks l.n l.at)
