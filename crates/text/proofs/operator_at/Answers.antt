-- By the first byte, the operators that begin with it.
use Rattle.std.proofs.Common.{sym, ◌∙◌}
use Rattle.text.proofs.Chain.{operator_by}
use Rattle.text.proofs.operator_at.Goals as goal

pub returns-in-Some-eq97 : goal.returns-in-Some-eq97
returns-in-Some-eq97 c = rw c.or_word.ensures (sym (operator_by c.args.s.now c.args.at 97 (sym c.in-Some-eq97.field-0-test ∙ c.in-Some-eq97.ensures.lookup.3.1 256)))

pub returns-in-Some-eq101 : goal.returns-in-Some-eq101
returns-in-Some-eq101 c = rw c.or_word-in-Some-eq101.ensures (sym (operator_by c.args.s.now c.args.at 101 (sym c.in-Some-eq101.field-0-test ∙ c.in-Some-eq101.ensures.lookup.3.1 256)))

pub returns-in-Some-eq102 : goal.returns-in-Some-eq102
returns-in-Some-eq102 c = rw c.or_word-in-Some-eq102.ensures (sym (operator_by c.args.s.now c.args.at 102 (sym c.in-Some-eq102.field-0-test ∙ c.in-Some-eq102.ensures.lookup.3.1 256)))

pub returns-in-Some-eq105 : goal.returns-in-Some-eq105
returns-in-Some-eq105 c = rw c.or_word-in-Some-eq105.ensures (sym (operator_by c.args.s.now c.args.at 105 (sym c.in-Some-eq105.field-0-test ∙ c.in-Some-eq105.ensures.lookup.3.1 256)))

pub returns-in-Some-eq108 : goal.returns-in-Some-eq108
returns-in-Some-eq108 c = rw c.or_word-in-Some-eq108.ensures (sym (operator_by c.args.s.now c.args.at 108 (sym c.in-Some-eq108.field-0-test ∙ c.in-Some-eq108.ensures.lookup.3.1 256)))

pub returns-in-Some-eq109 : goal.returns-in-Some-eq109
returns-in-Some-eq109 c = rw c.or_word-in-Some-eq109.ensures (sym (operator_by c.args.s.now c.args.at 109 (sym c.in-Some-eq109.field-0-test ∙ c.in-Some-eq109.ensures.lookup.3.1 256)))

pub returns-in-Some-eq115 : goal.returns-in-Some-eq115
returns-in-Some-eq115 c = rw (c.or_word-in-Some-eq115.ensures, c.or_word-r.ensures) (sym (operator_by c.args.s.now c.args.at 115 (sym c.in-Some-eq115.field-0-test ∙ c.in-Some-eq115.ensures.lookup.3.1 256)))

pub returns-in-Some-eq118 : goal.returns-in-Some-eq118
returns-in-Some-eq118 c = rw c.or_word-in-Some-eq118.ensures (sym (operator_by c.args.s.now c.args.at 118 (sym c.in-Some-eq118.field-0-test ∙ c.in-Some-eq118.ensures.lookup.3.1 256)))
