-- The depth falls from an expression to its operands, and the number of operands left from one to the next.
use Rattle.std.proofs.Common.{◌+◌, ◌*◌}
use Rattle.once.proofs.+expression_operands.Given as goal

abbrev pub decreases-expression : goal.decreases-expression
decreases-expression l = l.depth * 36893488147419103232

abbrev pub decreases-operands : goal.decreases-operands
decreases-operands l = l.depth * 36893488147419103232 + l.n + 1
