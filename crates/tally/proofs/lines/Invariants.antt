use Rattle.std.proofs.Common.{◌-◌, ◌≡◌}
use Rattle.tally.specs.Counts.{Few, passed}
use Rattle.rules.specs.Store.Text.{no_store, store_lines}
use Rattle.tally.proofs.lines.Given as goal

abbrev pub invariant-loop-line : goal.invariant-loop-line
invariant-loop-line l = Few l.line-counter l.c × (passed (store_lines l.s l.params (291 - l.line-counter) l.line-counter l.at l.c) ≡ passed (store_lines l.s l.params 290 1 0 no_store))
