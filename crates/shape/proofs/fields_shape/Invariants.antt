-- The invariant: what is left to read gives what the whole gives.
use Rattle.std.proofs.Common.{length, ◌-◌, ◌≡◌}
use Rattle.rules.specs.Text.Shape.{fields_shape}
use Rattle.shape.proofs.fields_shape.Given as goal

abbrev pub invariant-loop : goal.invariant-loop
invariant-loop l = fields_shape l.s (length l.s - l.counter) l.i ≡ fields_shape l.s (length l.s) l.at
