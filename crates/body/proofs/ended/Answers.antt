-- How many lines there are is small.
use Rattle.std.proofs.Common.{[], arith}
use Rattle.program.proofs.Laws.{lines_small, rows_small, vars_small}
use Rattle.body.proofs.ended.Goals as goal

pub overflow_add-last : goal.overflow_add-last
overflow_add-last c = omega (arith, c.row_count.ensures [], rows_small c.args.size.now [])

pub overflow_add-last-2 : goal.overflow_add-last-2
overflow_add-last-2 c = omega (arith, c.row_count.ensures [], rows_small c.args.size.now [], c.var_count.ensures [], vars_small c.args.size.now [])

pub overflow_add-last-3 : goal.overflow_add-last-3
overflow_add-last-3 c =
    omega (arith, c.row_count.ensures [], rows_small c.args.size.now [], c.var_count.ensures [], vars_small c.args.size.now [], c.line_count-n.ensures [] [], lines_small c.args.size.now [] [])
