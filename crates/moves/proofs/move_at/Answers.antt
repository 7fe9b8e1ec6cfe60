-- What the line decides can be done, and is done.
use Rattle.std.proofs.Common.{[], sym, subst, arith}
use Rattle.rules.specs.declared.Act.{Act}
use Rattle.moves.specs.Moves.{Ready}
use Rattle.moves.proofs.Held.{ready}
use Rattle.moves.proofs.Laws.{acts}
use Rattle.moves.proofs.move_at.Goals as goal

pub apply-requires : goal.apply-requires
apply-requires c =
    let a = c.args in
    (omega arith, subst (λ (x : Act). Ready x a.at) (sym (c.decide_at-act.ensures [] [])) (ready a.size.now a.nodes.now a.labels.now a.body.now [] [] a.store.now a.heads.now a.cells.now a.vals.now _ a.at c.fits-cells c.fits-vals))

pub returns : goal.returns
returns c =
    let a = c.args in
    acts a.size.now a.nodes.now a.labels.now a.body.now a.store.now a.heads.now a.cells.now a.vals.now a.at a.steps a.value _ c.budget.ensures c.if-budget-steps.false _ c.datum_of.ensures c.if-is_some.ensures _ c.decide_at-act.ensures _ _ _ c.apply.ensures
