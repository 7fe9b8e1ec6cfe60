-- Turn by turn: a step is taken from what the machine holds, and whatever line it is taken from, it counts one.
use Rattle.std.proofs.Common.{◌∙◌, sym, rules}
use Rattle.moves.specs.Moves.{parts}
use Rattle.machine.specs.Steps.{tables_in}
use Rattle.machine.proofs.Laws.{in_parts, same_tables}
use Rattle.machine.proofs.Runs.{fewer, onward, ended}
use Rattle.machine.proofs.run.Goals as goal

pub loop-out-smaller : goal.loop-out-smaller
loop-out-smaller c =
    let a = c.args in
    let l = c.loop-out in
    fewer a.size.now a.nodes.now a.labels.now a.body.now (tables_in a.store.now a.heads.now l.m) _ _ _ (in_parts _ _ _ _ _ _ _ _ _ c.step-out.ensures) l.out c.in-Moved.is

pub loop-out-preserved : goal.loop-out-preserved
loop-out-preserved c =
    let a = c.args in
    let l = c.loop-out in
    let s = same_tables a.size.now a.nodes.now a.labels.now a.body.now a.store.now a.heads.now _ _ _ c.step-out.ensures in (
      onward a.size.now a.nodes.now a.labels.now a.body.now (tables_in a.store.now a.heads.now l.m) _ _ _ (in_parts _ _ _ _ _ _ _ _ _ c.step-out.ensures) (parts a.store.now a.heads.now a.cells.now a.vals.now a.at a.steps a.value) l.out l.invariant.0,
      (s.0 ∙ l.invariant.1.0, s.1 ∙ l.invariant.1.1),
    )

pub returns : goal.returns
returns c =
    let a = c.args in
    let l = c.loop-out in
    let cells = sym l.invariant.1.0 in
    let vals = sym l.invariant.1.1 in
    ended a.size.now a.nodes.now a.labels.now a.body.now (tables_in a.store.now a.heads.now l.m) _ _ (search rules) (search rules) (parts a.store.now a.heads.now a.cells.now a.vals.now a.at a.steps a.value) l.out l.invariant.0 c.in_default.not-Moved
