-- Part by part.
use Rattle.std.proofs.Common.{ap, ◌∙◌}
use Rattle.std.proofs.lemmas.Result.{err_from_is_err_and}
use Rattle.rules.specs.View.{program}
use Rattle.names.specs.Passed.{on_line}
use Rattle.names.proofs.Laws.{names_top, names_rows, names_vars, names_body}
use Rattle.names.proofs.named.Goals as goal

pub returns-in_err-on_line : goal.returns-in_err-on_line
unfolding program
returns-in_err-on_line c =
    let t = c.args.t.now in
    let p = err_from_is_err_and c.from_residual.result c.from_residual.ensures.1 in
    rw (p.1, p.2) (names_top _ _ (c.in_err-on_line.ensures ∙ ap (on_line 1) (rw c.ret_kind.ensures at (c.name_kind.ensures t.nodes t.rows t.vars t.labels t.body))))

pub returns-in_err-name_rows : goal.returns-in_err-name_rows
unfolding program
returns-in_err-name_rows c =
    let t = c.args.t.now in
    let p = err_from_is_err_and c.from_residual-in_err-name_rows.result c.from_residual-in_err-name_rows.ensures.1 in
    rw (p.1, p.2) (names_rows _ _ (c.in_ok-on_line.ensures ∙ ap (on_line 1) (rw c.ret_kind.ensures at (c.name_kind.ensures t.nodes t.rows t.vars t.labels t.body))) (c.in_err-name_rows.ensures t.nodes t.vars t.labels t.body))

pub returns-in_err-name_vars : goal.returns-in_err-name_vars
unfolding program
returns-in_err-name_vars c =
    let t = c.args.t.now in
    let p = err_from_is_err_and c.from_residual-in_err-name_vars.result c.from_residual-in_err-name_vars.ensures.1 in
    rw (p.1, p.2) (names_vars _ _ (c.in_ok-on_line.ensures ∙ ap (on_line 1) (rw c.ret_kind.ensures at (c.name_kind.ensures t.nodes t.rows t.vars t.labels t.body))) (c.in_ok-name_rows.ensures t.nodes t.vars t.labels t.body) _ (c.row_count-from_vars.ensures t.rows) (c.in_err-name_vars.ensures t.nodes t.rows t.labels t.body))

pub returns : goal.returns
unfolding program
returns c =
    let t = c.args.t.now in
    names_body _ _ (c.in_ok-on_line.ensures ∙ ap (on_line 1) (rw c.ret_kind.ensures at (c.name_kind.ensures t.nodes t.rows t.vars t.labels t.body))) (c.in_ok-name_rows.ensures t.nodes t.vars t.labels t.body) _ (c.row_count-from_vars.ensures t.rows) (c.in_ok-name_vars.ensures t.nodes t.rows t.labels t.body) _ (c.var_count.ensures t.vars) c.name_body.ensures
