use Rattle.std.proofs.Common.{drop, true, ◌+◌, ◌≡◌}
use Rattle.rules.specs.Run.{glue_bytes}
use Rattle.joined.proofs.glue_bytes.Given as goal

abbrev pub invariant-loop-at : goal.invariant-loop-at
invariant-loop-at l = l.at + glue_bytes l.fresh (drop l.at l.s) ≡ glue_bytes true l.s
