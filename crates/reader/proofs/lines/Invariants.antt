-- The invariant: what is left to read gives what the whole gives, and the counts are within the limits.
use Rattle.std.proofs.Common.{◌-◌, ◌≡◌}
use Rattle.reader.specs.Read.{Within}
use Rattle.rules.specs.Text.{lines_from}
use Rattle.rules.specs.Text.Layout.{nothing}
use Rattle.reader.proofs.lines.Given as goal

abbrev pub invariant-loop-line : goal.invariant-loop-line
invariant-loop-line l = Within l.c × (lines_from l.s (611 - l.line) l.line l.at l.c l.t ≡ lines_from l.s 610 1 0 nothing l.initial.t)
