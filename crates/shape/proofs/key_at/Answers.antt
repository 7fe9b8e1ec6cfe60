-- By the first byte, the keys that begin with it.
use Rattle.std.proofs.Common.{sym, ◌∙◌}
use Rattle.shape.proofs.Ways.{key_by}
use Rattle.shape.proofs.key_at.Goals as goal

pub returns-in-Some-eq103 : goal.returns-in-Some-eq103
returns-in-Some-eq103 c = rw c.or_word.ensures (sym (key_by c.args.s.now c.args.at 103 (sym c.in-Some-eq103.field-0-test ∙ c.in-Some-eq103.ensures.lookup.3.1 256)))

pub returns-in-Some-eq105 : goal.returns-in-Some-eq105
returns-in-Some-eq105 c = rw (c.or_word-in-Some-eq105.ensures, c.or_word-r-in-Some-eq105-2.ensures, c.or_word-r-in-Some-eq105.ensures, c.or_word-r.ensures) (sym (key_by c.args.s.now c.args.at 105 (sym c.in-Some-eq105.field-0-test ∙ c.in-Some-eq105.ensures.lookup.3.1 256)))

pub returns-in-Some-eq108 : goal.returns-in-Some-eq108
returns-in-Some-eq108 c = rw (c.or_word-in-Some-eq108.ensures, c.or_word-r-in-Some-eq108.ensures) (sym (key_by c.args.s.now c.args.at 108 (sym c.in-Some-eq108.field-0-test ∙ c.in-Some-eq108.ensures.lookup.3.1 256)))

pub returns-in-Some-eq112 : goal.returns-in-Some-eq112
returns-in-Some-eq112 c = rw (c.or_word-in-Some-eq112.ensures, c.or_word-r-in-Some-eq112.ensures) (sym (key_by c.args.s.now c.args.at 112 (sym c.in-Some-eq112.field-0-test ∙ c.in-Some-eq112.ensures.lookup.3.1 256)))

pub returns-in-Some-eq114 : goal.returns-in-Some-eq114
returns-in-Some-eq114 c = rw (c.or_word-in-Some-eq114.ensures, c.or_word-r-in-Some-eq114.ensures) (sym (key_by c.args.s.now c.args.at 114 (sym c.in-Some-eq114.field-0-test ∙ c.in-Some-eq114.ensures.lookup.3.1 256)))

pub returns-in-Some-eq115 : goal.returns-in-Some-eq115
returns-in-Some-eq115 c = rw c.or_word-in-Some-eq115.ensures (sym (key_by c.args.s.now c.args.at 115 (sym c.in-Some-eq115.field-0-test ∙ c.in-Some-eq115.ensures.lookup.3.1 256)))

pub returns-in-Some-eq116 : goal.returns-in-Some-eq116
returns-in-Some-eq116 c = rw c.or_word-in-Some-eq116.ensures (sym (key_by c.args.s.now c.args.at 116 (sym c.in-Some-eq116.field-0-test ∙ c.in-Some-eq116.ensures.lookup.3.1 256)))
