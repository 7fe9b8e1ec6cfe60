-- A budget and a number of cells fit 32 bits.
use Rattle.std.proofs.Common.{ap, arith}
use Rattle.rules.specs.Text.Words.{value_of}
use Rattle.tally.proofs.Laws.{words_most}
use Rattle.tally.proofs.keyed_line.Goals as goal

pub counted-requires : goal.counted-requires
counted-requires c = (c.requires.1, λ h. omega (arith, ap value_of c.in-Ok.ensures, words_most c.args.s.now c.args.key c.args.at c.requires.0 h))
