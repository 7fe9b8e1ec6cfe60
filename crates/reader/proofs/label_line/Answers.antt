-- By what reading its entries gave, and by the byte after them.
use Rattle.std.proofs.Common.{ap, arith, sym, ◌∙◌}
use Rattle.rules.specs.Text.Layout.{in_part, one_label, one_line}
use Rattle.reader.specs.Labels.{entries_once}
use Rattle.reader.proofs.Labels.{label_bad, label_no_feed, label_whole}
use Rattle.reader.proofs.label_line.Goals as goal

pub returns-then-byte_at-ne10 : goal.returns-then-byte_at-ne10
returns-then-byte_at-ne10 c = let a = c.args in label_no_feed a.s.now a.at a.c a.t.now a.k c.requires.1 (c.entries_once.ensures ∙ ap (entries_once a.s.now a.c.labels a.c.vars 0 a.at) c.put_label_line.ensures) c.in-Ok.is (λ z. c.if-byte_at-ne10.true (c.byte_at.ensures ∙ z)) _ _ _

pub returns-in_default : goal.returns-in_default
returns-in_default c = let a = c.args in label_bad a.s.now a.at a.c a.t.now a.k c.requires.1 (c.entries_once.ensures ∙ ap (entries_once a.s.now a.c.labels a.c.vars 0 a.at) c.put_label_line.ensures) c.in_default.is _ _ _

pub returns : goal.returns
returns c = let a = c.args in label_whole a.s.now a.at a.c a.t.now a.k c.requires.1 (c.entries_once.ensures ∙ ap (entries_once a.s.now a.c.labels a.c.vars 0 a.at) c.put_label_line.ensures) c.in-Ok.is (omega arith) (omega arith) c.put_line.ensures (sym c.byte_at.ensures ∙ c.if-byte_at-ne10.false) (ap (in_part (one_label (one_line a.c a.c.nodes))) c.part_of.ensures)
