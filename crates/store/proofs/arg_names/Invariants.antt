use Rattle.std.proofs.Common.{◌+◌, ◌-◌, ◌≡◌}
use Rattle.store.specs.Lines.{Inside}
use Rattle.rules.specs.Store.Fill.{arg_names}
use Rattle.rules.specs.Answers.{first}
use Rattle.store.proofs.arg_names.Given as goal

abbrev pub invariant-loop-here : goal.invariant-loop-here
invariant-loop-here l = Inside l.s l.i × (first l.here (arg_names l.s l.blocks (l.line + l.args - l.here) l.i) ≡ first l.line (arg_names l.s l.blocks l.args l.at))
