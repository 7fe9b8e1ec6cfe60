-- The number of a number, and of a variable, fits 32 bits.
use Rattle.std.proofs.Common.{ap, arith}
use Rattle.rules.specs.Text.Words.{value_of}
use Rattle.text.proofs.Laws.{number_reads, value_most, var_reads}
use Rattle.text.proofs.head_at.Goals as goal

pub head_of-requires : goal.head_of-requires
head_of-requires c = omega (arith, ap value_of c.number_at.ensures, value_most (number_reads c.args.s.now c.args.at))

pub head_of-requires-then-begins_variable : goal.head_of-requires-then-begins_variable
head_of-requires-then-begins_variable c = omega (arith, ap value_of c.var_at.ensures, value_most (var_reads c.args.s.now c.args.at))
