use Rattle.std.proofs.Common.{drop, ◌≡◌}
use Rattle.store.specs.Lines.{Inside}
use Rattle.rules.specs.Store.Fill.{fill_vals}
use Rattle.rules.specs.View.{vars_from}
use Rattle.store.proofs.fill_vals.Given as goal

abbrev pub invariant-loop-v : goal.invariant-loop-v
invariant-loop-v l = Inside l.s l.i × (fill_vals l.s (drop l.v (vars_from l.size l.vars)) l.v l.i l.vals ≡ fill_vals l.s (vars_from l.size l.vars) 0 l.at l.initial.vals)
