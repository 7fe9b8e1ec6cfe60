use Rattle.std.proofs.Common.{List, ◌-◌, ◌≡◌}
use Rattle.store.specs.Lines.{Inside}
use Rattle.rules.specs.declared.StoreCount.{StoreCount}
use Rattle.rules.specs.Program.{Var}
use Rattle.rules.specs.Store.Fill.{fill_blocks}
use Rattle.store.proofs.fill_blocks.Given as goal

abbrev pub invariant-loop-k : goal.invariant-loop-k
invariant-loop-k l = Inside l.s l.i × ((D : List Var) (c : StoreCount) → fill_blocks l.s D c (l.blocks - l.k) l.k l.i l.heads l.cells ≡ fill_blocks l.s D c l.blocks 0 l.at l.initial.heads l.initial.cells)
