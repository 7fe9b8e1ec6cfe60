-- Line by line.
use Rattle.std.proofs.Common.{ap, ◌+◌, ◌∙◌}
use Rattle.std.proofs.lemmas.Result.{err_from_is_err_and}
use Rattle.rules.specs.Answers.{outcome}
use Rattle.rules.specs.Program.{bad_s}
use Rattle.names.specs.Passed.{on_line}
use Rattle.names.proofs.Laws.{line_no, line_on, line_there}
use Rattle.names.proofs.name_body.Goals as goal

pub returns-in_err-on_line : goal.returns-in_err-on_line
returns-in_err-on_line c =
    let p = err_from_is_err_and c.from_residual.result c.from_residual.ensures.1 in
    rw (p.1, p.2) (line_no _ _ _ _ _ (c.line_count-n.ensures _ _) bad_s c.loop-i-test.true (c.in_err-on_line.ensures ∙ ap (on_line (c.args.line + c.loop-i.i)) (rw (line_there _ _ _ _ _ (c.line_count-n.ensures c.args.t.now.nodes c.args.t.now.body) c.loop-i-test.true) at c.name_line-said.ensures)) ∙ ap outcome c.loop-i.invariant)

pub loop-i-preserved : goal.loop-i-preserved
loop-i-preserved c =
    line_on _ _ _ _ _ (c.line_count-n.ensures _ _) bad_s c.loop-i-test.true (c.in_ok-on_line.ensures ∙ ap (on_line (c.args.line + c.loop-i.i)) (rw (line_there _ _ _ _ _ (c.line_count-n.ensures c.args.t.now.nodes c.args.t.now.body) c.loop-i-test.true) at c.name_line-said.ensures)) ∙ c.loop-i.invariant
