use Rattle.std.proofs.Common.{◌-◌, ◌≡◌}
use Rattle.program.proofs.Places.{entered}
use Rattle.coded.specs.Coded.{entry_in}
use Rattle.rules.specs.Environments.{start_at}
use Rattle.rules.specs.View.{tab, vars_from}
use Rattle.body.proofs.start_codes.Given as goal

abbrev pub invariant-loop-v : goal.invariant-loop-v
invariant-loop-v l = (entered (32 - l.v) l.v (start_at (vars_from l.size l.vars)) (tab 32 (entry_in l.codes)) ≡ entered 32 0 (start_at (vars_from l.size l.vars)) (tab 32 (entry_in l.initial.codes)))
