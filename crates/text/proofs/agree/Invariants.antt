-- The invariant: what is left of the word and of the text agrees as far as the whole does.
use Rattle.std.proofs.Common.{drop, length, max, ◌+◌, ◌≡◌, ◌≤◌}
use Rattle.rules.specs.Text.Words.{agreed}
use Rattle.text.proofs.agree.Given as goal

abbrev pub invariant-loop-k : goal.invariant-loop-k
invariant-loop-k l = (l.at + l.k ≤ max l.at (length l.s)) × (l.k + agreed (drop l.k l.w) (drop (l.at + l.k) l.s) ≡ agreed l.w (drop l.at l.s))
