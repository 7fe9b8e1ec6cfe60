use Rattle.std.proofs.Common.{[], List, drop, get_or, ℕ, ◌≡◌}
use Rattle.rules.specs.Names.{fields_there}
use Rattle.rules.specs.View.{program, rows_from}
use Rattle.rules.specs.Program.{row_at}
use Rattle.program.specs.Lines.{tables_of}
use Rattle.names.proofs.fields_there.Given as goal

abbrev pub invariant-loop-o : goal.invariant-loop-o
invariant-loop-o l = (N D L B : List ℕ) → fields_there (program (tables_of l.size N l.rows D L B)) (drop l.o (get_or (row_at (rows_from l.size l.rows) l.r).products l.t [])) ≡ fields_there (program (tables_of l.size N l.rows D L B)) (get_or (row_at (rows_from l.size l.rows) l.r).products l.t [])
