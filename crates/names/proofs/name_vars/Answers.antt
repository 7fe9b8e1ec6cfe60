-- Variable by variable.
use Rattle.std.proofs.Common.{ap, ◌+◌, ◌∙◌}
use Rattle.std.proofs.lemmas.Result.{err_from_is_err_and}
use Rattle.rules.specs.Answers.{outcome}
use Rattle.rules.specs.Names.{name_var}
use Rattle.rules.specs.Program.{kind_at}
use Rattle.names.specs.Passed.{on_line}
use Rattle.names.proofs.Laws.{line_no, line_on}
use Rattle.names.proofs.name_vars.Goals as goal

pub returns-in_err-on_line : goal.returns-in_err-on_line
unfolding name_var kind_at
returns-in_err-on_line c N R L B =
    let p = err_from_is_err_and c.from_residual.result c.from_residual.ensures.1 in
    rw (p.1, p.2) (line_no _ _ _ _ _ (c.var_count-n.ensures _) _ c.loop-i-test.true (c.in_err-on_line.ensures ∙ ap (on_line (c.args.line + c.loop-i.i)) (rw c.kind_of-k.ensures at (c.name_kind.ensures N R c.args.vars.now L B))) ∙ ap outcome (c.loop-i.invariant N R L B))

pub loop-i-preserved : goal.loop-i-preserved
unfolding name_var kind_at
loop-i-preserved c N R L B =
    line_on _ _ _ _ _ (c.var_count-n.ensures _) _ c.loop-i-test.true (c.in_ok-on_line.ensures ∙ ap (on_line (c.args.line + c.loop-i.i)) (rw c.kind_of-k.ensures at (c.name_kind.ensures N R c.args.vars.now L B))) ∙ c.loop-i.invariant N R L B
