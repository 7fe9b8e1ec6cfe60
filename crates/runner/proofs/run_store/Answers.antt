-- The store was refused, or it passed and its machine was run.
use Rattle.std.proofs.Common.{sym, ◌∙◌}
use Rattle.rules.specs.View.{program}
use Rattle.runner.proofs.Laws.{store_refused, store_ran}
use Rattle.runner.proofs.run_store.Goals as goal

pub returns-in-Err : goal.returns-in-Err
returns-in-Err c =
    let t = c.args.t.now in
    store_refused (program t) c.args.s.now _ _ _ (sym c.in-Err.is ∙ (c.read.ensures t.nodes t.labels t.body).answer) c.case_of.ensures c.refuse.ensures

pub returns : goal.returns
returns c =
    let t = c.args.t.now in
    store_ran (program t) c.args.s.now _ _ (c.read.ensures t.nodes t.labels t.body) c.in_default.is _ _ _ _ _ _ (c.run-m.ensures t.rows t.vars).1 c.outcome.ensures
