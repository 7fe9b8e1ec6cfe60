-- The number stays below 100000000.
use Rattle.std.proofs.Common.{◌<◌}
use Rattle.corpus.proofs.next_length.Given as goal

abbrev pub invariant-loop-digits : goal.invariant-loop-digits
invariant-loop-digits l = l.n < 100000000
