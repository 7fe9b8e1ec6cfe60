-- What was printed is the text of the run, and lies within the table.
use Rattle.std.proofs.Common.{ap, ◌∙◌}
use Rattle.rules.specs.declared.Answer.{Answer}
use Rattle.told.proofs.Laws.{run_shown}
use Rattle.told.proofs.run_prints.Goals as goal

pub returns : goal.returns
returns c =
    let r = c.run-r.result in
    let p = run_shown c.args.s.now _ _ _ (ap (λ (a : Answer). record { answer = a; state = r.state; steps = r.steps; value = r.value }) c.answer_of.ensures ∙ c.run-r.ensures) c.result_text.ensures in
    record { out_after = p.0; prefix_len = p.1 }
