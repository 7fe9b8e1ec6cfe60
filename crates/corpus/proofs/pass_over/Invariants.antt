-- What is left falls with each read that gives a byte.
use Rattle.corpus.proofs.pass_over.Given as goal

abbrev pub decreases-loop-left : goal.decreases-loop-left
decreases-loop-left l = l.left
