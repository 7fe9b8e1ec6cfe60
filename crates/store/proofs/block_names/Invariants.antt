use Rattle.std.proofs.Common.{List, ℕ, ◌+◌, ◌-◌, ◌≡◌}
use Rattle.store.specs.Lines.{Inside}
use Rattle.rules.specs.Store.Fill.{block_names}
use Rattle.rules.specs.Answers.{first}
use Rattle.rules.specs.View.{rows_from}
use Rattle.store.proofs.block_names.Given as goal

abbrev pub invariant-loop-here : goal.invariant-loop-here
invariant-loop-here l = Inside l.s l.i × ((R : List ℕ) → first l.here (block_names l.s (rows_from l.size R) l.blocks l.args (2 + l.blocks - l.here) l.i) ≡ first 2 (block_names l.s (rows_from l.size R) l.blocks l.args l.blocks l.at))
