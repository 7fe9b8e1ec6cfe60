use Rattle.std.proofs.Common.{List, drop, map, ℕ, ◌+◌, ◌≡◌}
use Rattle.rules.specs.Answers.{first}
use Rattle.rules.specs.Names.{name_row}
use Rattle.rules.specs.View.{program, rows_from}
use Rattle.program.specs.Lines.{tables_of}
use Rattle.names.proofs.name_rows.Given as goal

abbrev pub invariant-loop-i : goal.invariant-loop-i
invariant-loop-i l = (N D L B : List ℕ) → first (l.line + l.i) (map (name_row (program (tables_of l.size N l.rows D L B))) (drop l.i (rows_from l.size l.rows))) ≡ first l.line (map (name_row (program (tables_of l.size N l.rows D L B))) (rows_from l.size l.rows))
