use Rattle.std.proofs.Common.{drop, ◌+◌, ◌≡◌, ◌≤◌}
use Rattle.rules.specs.Store.{params_of}
use Rattle.rules.specs.View.{vars_from}
use Rattle.store.proofs.params_of.Given as goal

abbrev pub invariant-loop-v : goal.invariant-loop-v
invariant-loop-v l = (l.params ≤ l.v) × (l.params + params_of (drop l.v (vars_from l.size l.vars)) ≡ params_of (vars_from l.size l.vars))
