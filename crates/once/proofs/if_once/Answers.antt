-- The number that was read fits 32 bits.
use Rattle.std.proofs.Common.{sym, arith}
use Rattle.text.proofs.Laws.{got, plain_reads}
use Rattle.once.proofs.Mark.{was_ok}
use Rattle.once.proofs.if_once.Goals as goal

pub overflow_cast-l : goal.overflow_cast-l
overflow_cast-l c = omega (arith, got (plain_reads c.args.s.now c.args.at) (sym (was_ok c.in_ok-l.ensures.value c.plain_at.ensures)))
