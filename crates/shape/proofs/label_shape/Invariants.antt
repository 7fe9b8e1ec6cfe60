-- The invariant: what is left to read gives what the whole gives.
use Rattle.std.proofs.Common.{◌-◌, ◌≡◌, ◌≤◌}
use Rattle.rules.specs.Text.Shape.{label_shape}
use Rattle.shape.proofs.label_shape.Given as goal

abbrev pub invariant-loop-v : goal.invariant-loop-v
invariant-loop-v l = (l.v ≤ l.vars) × (label_shape l.s (l.vars - l.v) l.i ≡ label_shape l.s l.vars l.at)
