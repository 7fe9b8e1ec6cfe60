use Rattle.std.proofs.Common.{◌+◌, ◌-◌, ◌≡◌, ◌≤◌}
use Rattle.rules.specs.Store.Fill.{fill_cells}
use Rattle.store.proofs.fill_cells.Given as goal

abbrev pub invariant-loop-o : goal.invariant-loop-o
invariant-loop-o l = (l.i + (l.n - l.o) ≤ 81920) × (fill_cells l.s l.k (l.n - l.o) l.o l.i l.cells ≡ fill_cells l.s l.k l.n 0 l.at l.initial.cells)
