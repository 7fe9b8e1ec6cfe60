use Rattle.std.proofs.Common.{drop, ◌≡◌}
use Rattle.rules.specs.Names.{entries_suit}
use Rattle.rules.specs.Program.{label_at}
use Rattle.rules.specs.View.{labels_from, vars_from}
use Rattle.names.proofs.entries_suit.Given as goal

abbrev pub invariant-loop-v : goal.invariant-loop-v
invariant-loop-v l = entries_suit (drop l.v (vars_from l.t.size l.t.vars)) (drop l.v (label_at (labels_from l.t.size l.t.labels) l.l).entries) ≡ entries_suit (vars_from l.t.size l.t.vars) (label_at (labels_from l.t.size l.t.labels) l.l).entries
