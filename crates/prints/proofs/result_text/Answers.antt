-- Eight words, one after the other.
use Rattle.rules.specs.Run.{result_text}
use Rattle.prints.proofs.Laws.{then, printed_by, put_by}
use Rattle.prints.proofs.result_text.Goals as goal

pub returns : goal.returns
unfolding result_text
returns c =
    let start = put_by c.answer-page.ensures.0 c.answer-page.ensures.1 in
    printed_by (then (then (then (then (then (then (then start c.word.ensures) c.state.ensures) c.word-2.ensures) c.decimal.ensures) c.word-3.ensures) c.value.ensures) c.word-4.ensures)
