use Rattle.std.proofs.Common.{List, drop, map, ℕ, ◌+◌, ◌≡◌}
use Rattle.rules.specs.Answers.{first}
use Rattle.rules.specs.Names.{name_var}
use Rattle.rules.specs.View.{program, vars_from}
use Rattle.program.specs.Lines.{tables_of}
use Rattle.names.proofs.name_vars.Given as goal

abbrev pub invariant-loop-i : goal.invariant-loop-i
invariant-loop-i l = (N R L B : List ℕ) → first (l.line + l.i) (map (name_var (program (tables_of l.size N R l.vars L B))) (drop l.i (vars_from l.size l.vars))) ≡ first l.line (map (name_var (program (tables_of l.size N R l.vars L B))) (vars_from l.size l.vars))
