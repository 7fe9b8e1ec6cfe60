use Rattle.std.proofs.Common.{◌-◌, ◌≡◌}
use Rattle.program.proofs.Places.{entered}
use Rattle.coded.specs.Coded.{entry_in}
use Rattle.coded.proofs.env_of.Given as goal

abbrev pub invariant-loop-v : goal.invariant-loop-v
invariant-loop-v l = entered (32 - l.v) l.v (entry_in l.codes) l.entries ≡ entered 32 0 (entry_in l.codes) l.initial.entries
