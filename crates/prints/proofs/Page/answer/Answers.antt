-- Five words, one after the other.
use Rattle.rules.specs.Run.{answer_text}
use Rattle.prints.proofs.Laws.{then, printed_by}
use Rattle.prints.proofs.Page.answer.Goals as goal

pub returns : goal.returns
unfolding answer_text
returns c = printed_by (then (then (then (then c.word.ensures c.decimal.ensures) c.word-2.ensures) c.decimal-2.ensures) c.word-3.ensures)
