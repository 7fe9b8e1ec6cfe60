-- Each table is written over.
use Rattle.std.proofs.Common.{sym}
use Rattle.program.proofs.Laws.{zeros_are}
use Rattle.program.proofs.clear.Goals as goal

pub returns : goal.returns
returns c = sym zeros_are
