-- The tables are zero when they are made.
use Rattle.std.proofs.Common.{sym}
use Rattle.program.proofs.Laws.{zeros_are}
use Rattle.checker.proofs.answer.Goals as goal

pub judged-requires : goal.judged-requires
judged-requires c = sym zeros_are
