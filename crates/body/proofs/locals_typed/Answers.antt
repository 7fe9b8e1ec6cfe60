-- How many rows there are is small.
use Rattle.std.proofs.Common.{[], arith}
use Rattle.program.proofs.Laws.{rows_small}
use Rattle.body.proofs.locals_typed.Goals as goal

pub overflow_add-from : goal.overflow_add-from
overflow_add-from c = omega (arith, c.row_count-from.ensures [], rows_small c.args.t.now.size [])
