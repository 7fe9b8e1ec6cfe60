-- A node by what stands there: nothing, a leaf, or a form whose operands were judged before it.
use Rattle.std.specs.Prelude.{Err}
use Rattle.std.proofs.Common.{ℕ, ◌≡◌, ◌∙◌, rules, refl, sym, ap, arith, not}
use Rattle.rules.specs.View.{form_of}
use Rattle.rules.specs.Typing.{type}
use Rattle.program.specs.Nodes.{arity}
use Rattle.program.proofs.Walk.{is_within, ends_beyond, ends_leaf, ends_one, ends_two, leaf_there, ends_there}
use Rattle.typing.specs.Walk.{form, found, found_at}
use Rattle.typing.proofs.Laws.{folds, of_form, of_step, of_calc, tree_of_lem, after_of_lem}
use Rattle.typing.proofs.+operand_walk.Goals as goal
use Rattle.typing.proofs.+operand_walk.Goals.{walk-In_default}

pub operand-leaf_at-j-requires : goal.operand-leaf_at-j-requires
operand-leaf_at-j-requires t c = (leaf_there _ _ _ c.is_leaf.ensures c.if-is_leaf.true).2

pub operand-overflow_add-at : goal.operand-overflow_add-at
operand-overflow_add-at t c = omega (arith, (leaf_there _ _ _ c.is_leaf.ensures c.if-is_leaf.true).1)

pub operand-returns-then-is_leaf : goal.operand-returns-then-is_leaf
unfolding found_at type
operand-returns-then-is_leaf t c = ends_there (type _ _ _) found _ _ _ (form _ _ _) (folds _ _ _) c.is_leaf.ensures c.if-is_leaf.true (Err 4) (Err 4) c.gives.ensures (c.leaf_at-j.ensures _)

pub walk-returns-then-not-is_within : goal.walk-returns-then-not-is_within
unfolding found_at type
walk-returns-then-not-is_within t c = c.gives.ensures ∙ ends_beyond (type _ _ _) found _ _ _ c.is_within.ensures (ap not c.if-not-is_within.true)

pub walk-returns-then-operands-eq0 : goal.walk-returns-then-operands-eq0
unfolding found_at type
walk-returns-then-operands-eq0 t c =
    let there = is_within c.args.depth c.args.at c.is_within.ensures (ap not c.if-not-is_within.false) in
    let leaf_here = ap (λ (o : ℕ). arity (form_of o)) (sym c.operation-op.ensures) ∙ sym c.operands.ensures ∙ c.if-operands-eq0.true in
    c.gives-then-operands-eq0.ensures ∙ ends_leaf (type _ _ _) found _ _ _ (form _ _ _) (folds _ _ _) _ _ _ there.0 there.1 refl refl refl _ _ _ leaf_here (c.leaf_at.ensures _)

pub walk-returns-in-Calc : goal.walk-returns-in-Calc
unfolding found_at type
walk-returns-in-Calc t c =
    let there = is_within c.args.depth c.args.at c.is_within.ensures (ap not c.if-not-is_within.false) in
    let x = c.operand-x.ensures in
    let y = c.operand-y.ensures in
    let two = ap arity c.in-Calc.ensures in
    c.gives-in-Calc.ensures ∙ ends_two (type _ _ _) found _ _ _ (form _ _ _) (folds _ _ _) _ _ _ there.0 there.1 c.operation-op.ensures refl refl _ _ _ _ _ (λ q. omega (arith, two, q)) (λ q. omega (arith, two, q)) (tree_of_lem _ _ _ _ _ _ _ x) (after_of_lem _ _ _ _ _ _ _ x) (tree_of_lem _ _ _ _ _ _ _ y) (after_of_lem _ _ _ _ _ _ _ y) (of_calc _ _ _ _ _ _ c.in-Calc.ensures c.tag_only-t.ensures c.ty_arith.ensures)

pub walk-returns-in-Step : goal.walk-returns-in-Step
unfolding found_at type
walk-returns-in-Step t c =
    let there = is_within c.args.depth c.args.at c.is_within.ensures (ap not c.if-not-is_within.false) in
    let x = c.operand-x.ensures in
    let y = c.operand-y-in-Step.ensures in
    let two = ap arity c.in-Step.ensures in
    c.gives-in-Step.ensures ∙ ends_two (type _ _ _) found _ _ _ (form _ _ _) (folds _ _ _) _ _ _ there.0 there.1 c.operation-op.ensures refl refl _ _ _ _ _ (λ q. omega (arith, two, q)) (λ q. omega (arith, two, q)) (tree_of_lem _ _ _ _ _ _ _ x) (after_of_lem _ _ _ _ _ _ _ x) (tree_of_lem _ _ _ _ _ _ _ y) (after_of_lem _ _ _ _ _ _ _ y) (of_step _ _ _ _ _ _ c.in-Step.ensures c.ty_step.ensures)

pub walk-returns-in_default : goal.walk-returns-in_default
unfolding found_at type
walk-returns-in_default t c =
    let there = is_within c.args.depth c.args.at c.is_within.ensures (ap not c.if-not-is_within.false) in
    let x = c.operand-x.ensures in
    let some : arity c.form_of-what.result ≡ 0 → ⊥ = λ q. c.if-operands-eq0.false (c.operands.ensures ∙ ap arity (sym c.form_of-what.ensures) ∙ q) in
    let one : arity (form_of c.operation-op.result) ≡ 1 = rw (sym c.form_of-what.ensures) (search rules) in
    c.gives-in_default.ensures ∙ ends_one (type _ _ _) found _ _ _ (form _ _ _) (folds _ _ _) _ _ _ there.0 there.1 c.operation-op.ensures c.argument-a.ensures refl _ _ _ _ one (tree_of_lem _ _ _ _ _ _ _ x) (after_of_lem _ _ _ _ _ _ _ x) (of_form _ _ _ _ _ _ c.form_of-what.ensures (c.one_operand.ensures _ _))
