-- Line by line: what is ahead of a line gives what the whole gives.
use Rattle.std.proofs.Common.{rules, ◌≡◌, ◌+◌, [], ap, sym, ◌∙◌, arith}
use Rattle.std.proofs.lemmas.Result.{err_from_is_err_and}
use Rattle.rules.specs.Answers.{answer, outcome}
use Rattle.program.proofs.Laws.{lines_small, rows_small, vars_small}
use Rattle.coded.specs.Coded.{env_of}
use Rattle.body.proofs.Laws.{ahead_end, err_of, ahead_refused, lines_start}
use Rattle.body.proofs.lines_typed.Goals as goal

pub overflow_add-from : goal.overflow_add-from
overflow_add-from c = omega (arith, c.row_count.ensures [], rows_small c.args.t.now.size [])

pub overflow_add-from-2 : goal.overflow_add-from-2
overflow_add-from-2 c = omega (arith, c.row_count.ensures [], rows_small c.args.t.now.size [], c.var_count-count.ensures [], vars_small c.args.t.now.size [])

pub loop-i-init : goal.loop-i-init
loop-i-init c =
    let t = c.args.t.now in
    let n = c.var_count-count.ensures t.vars in
    (c.env_of-env.ensures, lines_start t _ _ _ (c.row_count.ensures _) n (c.env_of-env.ensures ∙ ap (env_of c.start_codes-codes.result) n ∙ c.start_codes-codes.ensures))

pub overflow_add-line : goal.overflow_add-line
overflow_add-line c =
    omega (arith, c.row_count.ensures [], rows_small c.args.t.now.size [], c.var_count-count.ensures [], vars_small c.args.t.now.size [], c.line_count-i-end.ensures [] [], lines_small c.args.t.now.size [] [], c.loop-i-test.true)

pub returns-in_err-then : goal.returns-in_err-then
returns-in_err-then c =
    let t = c.args.t.now in
    let p = err_from_is_err_and c.from_residual.result c.from_residual.ensures.1 in
    let q = err_of _ _ _ c.in_err-then.ensures.cases c.in_err-then.ensures.variant in
    let h = rw (c.line_count-i-end.ensures t.nodes t.body) at c.loop-i-test.true in
    let z : c.in_err-then.field-0.0 ≡ answer q.0 (2 + c.row_count.result + c.var_count-count.result + c.loop-i.i) = search (rules, q.2) in
    rw (p.1, p.2, z) (ahead_refused t _ _ _ _ _ _ _ q.1 c.deed_of-x.ensures.told h c.deed_of-x.ensures.line c.loop-i.invariant.1)

pub returns : goal.returns
returns c =
    let t = c.args.t.now in
    let h = rw (c.line_count-i-end.ensures t.nodes t.body) at c.loop-i-test.false in
    ap outcome (sym (ahead_end t _ _ _ _ h) ∙ c.loop-i.invariant.1)
