use Rattle.std.proofs.Common.{List, drop, ℕ, ◌≡◌}
use Rattle.rules.specs.Names.{products_there}
use Rattle.rules.specs.View.{program, rows_from}
use Rattle.rules.specs.Program.{row_at}
use Rattle.program.specs.Lines.{tables_of}
use Rattle.names.proofs.products_there.Given as goal

abbrev pub invariant-loop-t : goal.invariant-loop-t
invariant-loop-t l = (N D L B : List ℕ) → products_there (program (tables_of l.size N l.rows D L B)) (drop l.t (row_at (rows_from l.size l.rows) l.r).products) ≡ products_there (program (tables_of l.size N l.rows D L B)) (row_at (rows_from l.size l.rows) l.r).products
