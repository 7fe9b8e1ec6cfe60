-- The invariant: what is left to read gives what the whole gives.
use Rattle.std.proofs.Common.{◌-◌, ◌≡◌}
use Rattle.reader.specs.Labels.{entries_once}
use Rattle.reader.proofs.entries_once.Given as goal

abbrev pub invariant-loop-v : goal.invariant-loop-v
invariant-loop-v l = entries_once l.s l.l (l.vars - l.v) l.v l.at l.labels ≡ entries_once l.s l.l l.vars 0 l.from l.initial.labels
