use Rattle.std.proofs.Common.{◌+◌, ◌≡◌, ◌≤◌}
use Rattle.fits.specs.Blocks.{store_in}
use Rattle.fits.proofs.Laws.{args_from}
use Rattle.rules.specs.View.{rows_from, vars_from}
use Rattle.fits.proofs.fit_args.Given as goal

abbrev pub invariant-loop-v : goal.invariant-loop-v
invariant-loop-v l = (l.at ≤ l.line + l.v) × (args_from (rows_from l.size l.rows) (store_in l.t) (vars_from l.size l.vars) l.t.vals l.at l.v ≡ args_from (rows_from l.size l.rows) (store_in l.t) (vars_from l.size l.vars) l.t.vals l.line 0)
