-- The depth falls from a walk to its operands, which may be walked in turn.
use Rattle.std.proofs.Common.{◌+◌, ◌*◌}
use Rattle.eval.proofs.+operand_walk.Given as goal

abbrev pub decreases-walk : goal.decreases-walk
decreases-walk l = l.depth * 2

abbrev pub decreases-operand : goal.decreases-operand
decreases-operand l = l.depth * 2 + 1
