-- The number of an operator, and of a row, fits 32 bits.
use Rattle.std.proofs.Common.{ap, sym, arith}
use Rattle.rules.specs.Text.Words.{value_of}
use Rattle.text.proofs.Laws.{got, operator_reads, plain_reads, value_most}
use Rattle.text.proofs.operator_head.Goals as goal

pub overflow_cast-result : goal.overflow_cast-result
overflow_cast-result c = omega (arith, got (operator_reads c.args.s.now c.args.at) (sym c.in_ok-op.ensures))

pub head_of-requires : goal.head_of-requires
head_of-requires c = omega (arith, ap value_of c.plain_at.ensures, value_most (plain_reads c.args.s.now c.in_ok-byte_is.field-0))
