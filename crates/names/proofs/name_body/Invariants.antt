use Rattle.std.proofs.Common.{drop, map, ◌+◌, ◌≡◌}
use Rattle.rules.specs.View.{body_from, program}
use Rattle.rules.specs.Answers.{first}
use Rattle.names.specs.Trees.{line_named}
use Rattle.names.proofs.name_body.Given as goal

abbrev pub invariant-loop-i : goal.invariant-loop-i
invariant-loop-i l = first (l.line + l.i) (map (line_named l.trees (program l.t)) (drop l.i (body_from l.t.size l.t.nodes l.t.body))) ≡ first l.line (map (line_named l.trees (program l.t)) (body_from l.t.size l.t.nodes l.t.body))
