use Rattle.std.proofs.Common.{◌≡◌}
use Rattle.body.proofs.Laws.{ahead}
use Rattle.coded.specs.Coded.{env_of}
use Rattle.body.specs.Lines.{lines_in}
use Rattle.body.proofs.lines_typed.Given as goal

abbrev pub invariant-loop-i : goal.invariant-loop-i
invariant-loop-i l = (l.env ≡ env_of l.codes l.count) × (ahead l.t l.from l.i l.live l.env ≡ lines_in l.t)
