-- An operand that is a number or a variable is evaluated where it stands; any other by its form, over what its own operands give.
use Rattle.std.specs.Prelude.{None}
use Rattle.std.proofs.Common.{not, refl, sym, ap, ◌∙◌, ◌≡◌, arith, rules}
use Rattle.rules.specs.declared.Form.TheVariants as M
use Rattle.rules.specs.View.{form_of}
use Rattle.rules.specs.Machine.{eval}
use Rattle.program.specs.Nodes.{arity}
use Rattle.program.proofs.Walk.{is_within, ends_beyond, ends_leaf, ends_one, ends_two, ends_there}
use Rattle.eval.specs.Walk.{form, gave, gave_at}
use Rattle.eval.proofs.Laws.{folds, by_form, tree_of_lem, after_of_lem}
use Rattle.eval.proofs.+operand_walk.Goals as goal

pub operand-returns-then-is_leaf : goal.operand-returns-then-is_leaf
unfolding gave_at eval
operand-returns-then-is_leaf t c R D =
    ends_there (eval _ _ _) gave _ _ _ (form _ _ _) (folds _ _ _) c.is_leaf.ensures c.if-is_leaf.true None None c.gives.ensures (c.leaf_at.ensures _ _ D)

pub walk-returns-then-not-is_within : goal.walk-returns-then-not-is_within
unfolding gave_at eval
walk-returns-then-not-is_within t c R D = c.gives.ensures ∙ ends_beyond (eval _ _ _) gave _ _ _ c.is_within.ensures (ap not c.if-not-is_within.true)

pub walk-returns-in-Absent : goal.walk-returns-in-Absent
unfolding gave_at eval
walk-returns-in-Absent t c R D =
    let n : arity c.form_of-node.result ≡ 0 = search rules in
    let w = is_within _ _ c.is_within.ensures (ap not c.if-not-is_within.false) in
    c.gives-in-Absent.ensures
    ∙ ends_leaf (eval _ _ _) gave _ _ _ (form _ _ _) (folds _ _ _) _ _ _ w.0 w.1 c.operation.ensures c.argument-a.ensures (ap arity c.form_of-node.ensures) _ _ _ n
    (by_form _ _ _ _ _ _ _ c.form_of-node.ensures (c.leaf.ensures _ _ D))

pub walk-returns-in-Fetch : goal.walk-returns-in-Fetch
unfolding gave_at eval
walk-returns-in-Fetch t c R D =
    let n : arity c.form_of-node.result ≡ 1 = search rules in
    let w = is_within _ _ c.is_within.ensures (ap not c.if-not-is_within.false) in
    let x = c.operand-x.ensures R D in
    c.gives-in-Fetch.ensures
    ∙ ends_one (eval _ _ _) gave _ _ _ (form _ _ _) (folds _ _ _) _ _ _ w.0 w.1 c.operation.ensures c.argument-a.ensures (ap arity c.form_of-node.ensures) _ _ _ _ n
    (tree_of_lem _ _ _ _ _ _ _ x) (after_of_lem _ _ _ _ _ _ _ x) (by_form _ _ _ _ _ _ _ c.form_of-node.ensures (c.one_operand-g.ensures R _ _))

pub walk-returns-in-Step : goal.walk-returns-in-Step
unfolding gave_at eval form
walk-returns-in-Step t c R D =
    let w = is_within _ _ c.is_within.ensures (ap not c.if-not-is_within.false) in
    let e : M.Step ≡ form_of c.operation.result = sym c.in-Step.is ∙ c.form_of-node.ensures in
    let x = c.operand-x-in-Step.ensures R D in
    let y = c.operand-y.ensures R D in
    c.gives-in-Step.ensures
    ∙ ends_two (eval _ _ _) gave _ _ _ (form _ _ _) (folds _ _ _) _ _ _ w.0 w.1 c.operation.ensures refl (ap arity e) _ _ _ _ _ (omega arith) (omega arith)
    (tree_of_lem _ _ _ _ _ _ _ x) (after_of_lem _ _ _ _ _ _ _ x) (tree_of_lem _ _ _ _ _ _ _ y) (after_of_lem _ _ _ _ _ _ _ y)
    (by_form _ _ _ _ _ _ _ e (c.ev_step.ensures _))

pub walk-returns-in-Calc : goal.walk-returns-in-Calc
unfolding gave_at eval form
walk-returns-in-Calc t c R D =
    let w = is_within _ _ c.is_within.ensures (ap not c.if-not-is_within.false) in
    let e : M.Calc c.in-Calc.op ≡ form_of c.operation.result = sym c.in-Calc.is ∙ c.form_of-node.ensures in
    let x = c.operand-x-in-Calc.ensures R D in
    let y = c.operand-y-in-Calc.ensures R D in
    c.gives-in-Calc.ensures
    ∙ ends_two (eval _ _ _) gave _ _ _ (form _ _ _) (folds _ _ _) _ _ _ w.0 w.1 c.operation.ensures refl (ap arity e) _ _ _ _ _ (omega arith) (omega arith)
    (tree_of_lem _ _ _ _ _ _ _ x) (after_of_lem _ _ _ _ _ _ _ x) (tree_of_lem _ _ _ _ _ _ _ y) (after_of_lem _ _ _ _ _ _ _ y)
    (by_form _ _ _ _ _ _ _ e (c.ev_arith.ensures _ c.int-n.ensures))
