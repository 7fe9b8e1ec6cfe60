-- Row by row.
use Rattle.std.proofs.Common.{Bool, ap, sym, ◌+◌, ◌∙◌}
use Rattle.rules.specs.When.{need}
use Rattle.rules.specs.Answers.{outcome}
use Rattle.rules.specs.Names.{name_row}
use Rattle.rules.specs.Program.{row_at}
use Rattle.names.specs.Passed.{on_line, passed}
use Rattle.names.proofs.Laws.{line_no, line_on}
use Rattle.names.proofs.name_rows.Goals as goal

pub returns-then-not-products_there : goal.returns-then-not-products_there
unfolding name_row row_at
returns-then-not-products_there c N D L B =
    line_no _ _ _ _ _ (c.row_count-n.ensures _) _ c.loop-i-test.true (ap (λ (b : Bool). on_line (c.args.line + c.loop-i.i) (passed (need 4 b 0))) (sym c.if-not-products_there.true ∙ c.products_there.ensures N D L B)) ∙ ap outcome (c.loop-i.invariant N D L B)

pub loop-i-preserved : goal.loop-i-preserved
unfolding name_row row_at
loop-i-preserved c N D L B =
    line_on _ _ _ _ _ (c.row_count-n.ensures _) _ c.loop-i-test.true (ap (λ (b : Bool). on_line (c.args.line + c.loop-i.i) (passed (need 4 b 0))) (sym c.if-not-products_there.false ∙ c.products_there.ensures N D L B)) ∙ c.loop-i.invariant N D L B
