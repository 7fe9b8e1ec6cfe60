-- The depth falls from an expression to its operands.
use Rattle.names.proofs.+there_at.Given as goal

abbrev pub decreases-there_at : goal.decreases-there_at
decreases-there_at l = l.depth
