use Rattle.std.proofs.Common.{drop, length, map, ◌+◌, ◌≡◌}
use Rattle.rules.specs.Answers.{first}
use Rattle.rules.specs.Body.{local_line}
use Rattle.rules.specs.View.{rows_from, vars_from}
use Rattle.body.proofs.locals_typed.Given as goal

abbrev pub invariant-loop-v : goal.invariant-loop-v
invariant-loop-v l = (first (l.from + l.v) (map (local_line (rows_from l.t.size l.t.rows)) (drop l.v (vars_from l.t.size l.t.vars))) ≡ first (2 + length (rows_from l.t.size l.t.rows)) (map (local_line (rows_from l.t.size l.t.rows)) (vars_from l.t.size l.t.vars)))
