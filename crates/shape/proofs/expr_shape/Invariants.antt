-- The invariant: what is left to read gives what the whole gives, and each word adds at most one to the expressions that are still to come, so that their count fits.
use Rattle.std.proofs.Common.{length, ◌+◌, ◌-◌, ◌≡◌, ◌≤◌}
use Rattle.rules.specs.Text.Shape.{exprs_shape}
use Rattle.shape.proofs.expr_shape.Given as goal

abbrev pub invariant-loop : goal.invariant-loop
invariant-loop l = (1 ≤ l.need) × ((l.need ≤ l.counter + 1) × (exprs_shape l.s (length l.s - l.counter) l.need l.i ≡ exprs_shape l.s (length l.s) 1 l.at))
