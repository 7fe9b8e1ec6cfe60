-- A field that is there lies in its row.
use Rattle.std.proofs.Common.{◌<◌, arith}
use Rattle.table.proofs.Laws.{below}
use Rattle.program.proofs.Laws.{field_small}
use Rattle.program.proofs.field_of.Goals as goal

pub overflow_mul-t : goal.overflow_mul-t
overflow_mul-t c = omega (arith, field_small c.args.size.now c.args.rows.now c.args.r c.args.t c.args.o (below c.fields_of-n.ensures c.if-o-n.true))

pub overflow_add-t : goal.overflow_add-t
overflow_add-t c = omega (arith, field_small c.args.size.now c.args.rows.now c.args.r c.args.t c.args.o (below c.fields_of-n.ensures c.if-o-n.true))

pub overflow_add-t-then-o-n : goal.overflow_add-t-then-o-n
overflow_add-t-then-o-n c = omega (arith, field_small c.args.size.now c.args.rows.now c.args.r c.args.t c.args.o (below c.fields_of-n.ensures c.if-o-n.true))
