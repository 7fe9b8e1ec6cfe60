-- By the word of the kind.
use Rattle.std.proofs.Common.{ap, arith, subst}
use Rattle.rules.specs.Text.Words.{Reading, value_of, next_of}
use Rattle.text.proofs.Laws.{plain_reads, value_most}
use Rattle.reader.specs.Read.{Worded}
use Rattle.reader.proofs.Laws.{kind_near, kind_value_lem}
use Rattle.reader.proofs.kind_code.Goals as goal

pub word_of-w-requires-clause-near : goal.word_of-w-requires-clause-near
word_of-w-requires-clause-near c = record { near = omega (arith, kind_near c.args.s.now c.args.at c.requires c.in-Ok.ensures); short = c.requires.short }

pub overflow_add-result-in-Ok : goal.overflow_add-result-in-Ok
overflow_add-result-in-Ok c = omega (arith, value_most (plain_reads c.args.s.now c.in-Ok.n), c.word_of-w.ensures.gives, ap value_of c.plain_at.ensures)

pub returns-in-Ok : goal.returns-in-Ok
returns-in-Ok c = kind_value_lem c.args.s.now c.args.at c.in-Ok.field-0-0 c.in-Ok.n c.in-Ok.ensures c.in-Ok.field-0-0-test.1 (subst (λ (r : Reading). Worded c.args.s.now c.in-Ok.n (value_of r) (next_of r) c.word_of-w.result.value c.word_of-w.result.past) c.plain_at.ensures c.word_of-w.ensures)
