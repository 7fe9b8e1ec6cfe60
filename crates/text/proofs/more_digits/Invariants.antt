-- The invariant: what is left to read gives what the whole gives.
use Rattle.std.proofs.Common.{drop, ◌≡◌, ◌≤◌}
use Rattle.rules.specs.Text.Words.{more_digits}
use Rattle.text.proofs.more_digits.Given as goal

abbrev pub invariant-loop-i : goal.invariant-loop-i
invariant-loop-i l = (l.most ≤ 2147483648) × ((1 ≤ l.v) × ((l.v ≤ l.most) × (more_digits (drop l.i l.s) l.i l.v l.most ≡ more_digits (drop l.from l.s) l.from l.first l.most)))
