-- The number that was read fits 32 bits.
use Rattle.std.proofs.Common.{sym, arith}
use Rattle.text.proofs.Laws.{got, var_reads}
use Rattle.once.proofs.Mark.{was_ok}
use Rattle.once.proofs.set_once.Goals as goal

pub overflow_cast-v : goal.overflow_cast-v
overflow_cast-v c = omega (arith, got (var_reads c.args.s.now c.args.at) (sym (was_ok c.in_ok-v.ensures.value c.var_at.ensures)))
