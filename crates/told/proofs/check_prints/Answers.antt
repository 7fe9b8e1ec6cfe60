-- What was printed is the text of the verdict, and lies within the table.
use Rattle.told.proofs.Laws.{check_shown}
use Rattle.told.proofs.check_prints.Goals as goal

pub returns : goal.returns
returns c =
    let p = check_shown c.args.s.now _ _ _ _ c.answer.ensures c.answer_of.ensures c.answer_text.ensures in
    record { out_after = p.0; prefix_len = p.1 }
