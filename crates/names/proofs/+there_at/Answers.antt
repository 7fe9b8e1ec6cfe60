-- By the form of the node that stands there. The program is what the tables mean.
use Rattle.std.proofs.Common.{refl, sym, true, false, ◌∙◌}
use mathlib.Core.Logic.{⊎_elim}
use Rattle.rules.specs.View.{program}
use Rattle.names.proofs.Laws.{leaf_is, one_is, one_not, two_none, two_operands, two_some}
use Rattle.names.proofs.+there_at.Goals as goal

pub returns-in-Absent : goal.returns-in-Absent
unfolding program
returns-in-Absent t c R D L B =
    leaf_is _ _ _ _ c.if-depth-eq0.false c.if-at-ge-NODES.false c.operation.ensures c.argument-a.ensures c.in-Absent.ensures false refl refl

pub returns-in-Lit : goal.returns-in-Lit
unfolding program
returns-in-Lit t c R D L B =
    leaf_is _ _ _ _ c.if-depth-eq0.false c.if-at-ge-NODES.false c.operation.ensures c.argument-a.ensures c.in-Lit.ensures true refl refl

pub returns-in-Var : goal.returns-in-Var
unfolding program
returns-in-Var t c R D L B =
    c.then_some.ensures ∙ leaf_is _ _ _ _ c.if-depth-eq0.false c.if-at-ge-NODES.false c.operation.ensures c.argument-a.ensures c.in-Var.ensures _ refl (c.var_there.ensures D)

pub returns-in-Fetch : goal.returns-in-Fetch
returns-in-Fetch t c R D L B =
    ⊎_elim
    (λ e. one_is _ _ _ _ c.if-depth-eq0.false c.if-at-ge-NODES.false c.operation.ensures c.argument-a.ensures (sym e ∙ c.form_of.ensures) refl refl (c.there_at.ensures R D L B))
    (λ e. one_is _ _ _ _ c.if-depth-eq0.false c.if-at-ge-NODES.false c.operation.ensures c.argument-a.ensures (sym e ∙ c.form_of.ensures) refl refl (c.there_at.ensures R D L B))
    c.in-Fetch.is

pub returns-then-row_there : goal.returns-then-row_there
unfolding program
returns-then-row_there t c R D L B =
    one_is _ _ _ _ c.if-depth-eq0.false c.if-at-ge-NODES.false c.operation.ensures c.argument-a.ensures c.in-Val.ensures refl (rw (sym (c.row_there.ensures R), c.if-row_there.true) refl) (c.there_at-then-row_there.ensures R D L B)

pub returns-else-row_there : goal.returns-else-row_there
unfolding program
returns-else-row_there t c R D L B =
    one_not _ _ _ _ c.if-depth-eq0.false c.if-at-ge-NODES.false c.operation.ensures c.argument-a.ensures c.in-Val.ensures refl (rw (sym (c.row_there.ensures R), c.if-row_there.false) refl)

pub returns-in_err-second-in-Step : goal.returns-in_err-second-in-Step
returns-in_err-second-in-Step t c R D L B =
    let w = two_operands c.in-Step.is in
    rw c.from_residual.ensures (two_none _ _ _ _ c.if-depth-eq0.false c.if-at-ge-NODES.false c.operation.ensures c.argument-a.ensures c.form_of.ensures w.0 w.1 (c.in_err-second-in-Step.ensures R D L B))

pub returns-in_ok-second-in-Step : goal.returns-in_ok-second-in-Step
returns-in_ok-second-in-Step t c R D L B =
    let w = two_operands c.in-Step.is in
    two_some _ _ _ _ c.if-depth-eq0.false c.if-at-ge-NODES.false c.operation.ensures c.argument-a.ensures c.form_of.ensures w.0 w.1 (c.in_ok-second-in-Step.ensures R D L B) (c.there_at-in-Step-2.ensures R D L B)
