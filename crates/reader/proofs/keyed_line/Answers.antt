-- By the order of the keys, by whether the line has expressions or is a label, and by its shape.
use Rattle.std.proofs.Common.{ap, arith, sym, ◌∙◌}
use mathlib.Core.Logic.{⊎_elim}
use Rattle.once.specs.Once.{has_expr}
use Rattle.rules.specs.Text.Layout.{nothing}
use Rattle.reader.specs.Read.{settled}
use Rattle.reader.proofs.Once.{same_number}
use Rattle.reader.proofs.Ways.{not_ordered, ordered}
use Rattle.reader.proofs.keyed_line.Goals as goal

pub returns-then-not-in_order : goal.returns-then-not-in_order
returns-then-not-in_order c = let a = c.args in λ start. same_number 2 0 start nothing a.c a.t.now a.t.now (λ e. omega (arith, e)) ∙ sym (ap settled (not_ordered a.s.now a.at a.c a.t.now a.k start (sym c.in_order.ensures ∙ c.if-not-in_order.true)))

pub returns-in_default-line_shape : goal.returns-in_default-line_shape
returns-in_default-line_shape c = let a = c.args in λ start. same_number 2 0 _ nothing a.c a.t.now a.t.now (λ e. omega (arith, e)) ∙ sym (ap settled (ordered a.s.now a.at a.c a.t.now a.k start (sym c.in_order.ensures ∙ c.if-not-in_order.false) (sym c.in_default-line_shape.is ∙ c.line_shape.ensures)))

pub expr_line-requires : goal.expr_line-requires
unfolding has_expr
expr_line-requires c = (c.requires.within, ap has_expr (sym c.key_of.ensures) ∙ ⊎_elim (ap has_expr) (⊎_elim (ap has_expr) (⊎_elim (ap has_expr) (ap has_expr))) c.in-Set.is)
