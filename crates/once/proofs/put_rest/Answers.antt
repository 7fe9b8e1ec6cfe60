-- The number that was read fits 32 bits.
use Rattle.std.proofs.Common.{sym, arith}
use Rattle.text.proofs.Laws.{got, number_reads}
use Rattle.once.proofs.Mark.{was_ok}
use Rattle.once.proofs.put_rest.Goals as goal

pub overflow_cast-w : goal.overflow_cast-w
overflow_cast-w c = omega (arith, got (number_reads c.args.s.now c.args.n) (sym (was_ok c.in_ok-w.ensures.value c.number_at.ensures)))
