use Rattle.std.proofs.Common.{true, ◌≡◌}
use Rattle.rules.specs.Environments.{covers_first}
use Rattle.rules.specs.View.{entry_from, tab}
use Rattle.program.proofs.label_covers.Given as goal

abbrev pub invariant-loop-v : goal.invariant-loop-v
invariant-loop-v l = covers_first l.v (tab 32 (entry_from l.labels l.l)) l.env.entries ≡ true
