-- The invariant: what is left to write gives what the whole gives.
use Rattle.std.proofs.Common.{◌-◌, ◌≡◌}
use Rattle.rules.specs.Text.Fill.{fill_fields}
use Rattle.reader.proofs.fill_fields.Given as goal

abbrev pub invariant-loop : goal.invariant-loop
invariant-loop l = fill_fields l.s l.r (257 - l.counter) l.sum l.rows l.k l.o l.at ≡ fill_fields l.s l.r 257 l.total l.initial.rows 0 0 l.from
