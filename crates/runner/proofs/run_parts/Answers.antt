-- The glue passed, and the store behind it was run.
use Rattle.runner.proofs.Laws.{rest_is, glue_ran}
use Rattle.runner.proofs.run_parts.Goals as goal

pub returns : goal.returns
returns c =
    glue_ran _ _ _ (rest_is c.args.n c.args.s.now c.requires) _ _ c.check-v.ensures _ c.answer_of-a.ensures c.if-a-ne0.false _ c.run_store.ensures
