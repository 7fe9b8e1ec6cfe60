-- Read at once, or late.
use Rattle.std.proofs.Common.{arith, ap}
use Rattle.rules.specs.Text.Layout.{in_part, one_line}
use Rattle.reader.proofs.Once.{once_inside, once_line, once_late}
use Rattle.reader.proofs.expr_line.Goals as goal

pub overflow_add-result : goal.overflow_add-result
overflow_add-result c = let a = c.args in omega (arith, once_inside a.s.now a.k a.at a.c a.t.now c.requires.1 c.line_once.ensures c.in-Some.is)

pub returns : goal.returns
returns c = let a = c.args in once_line a.s.now a.k a.at a.c a.t.now c.requires.1 c.line_once.ensures c.in-Some.is (ap (in_part (one_line a.c c.in-Some.f)) c.part_of.ensures)

pub returns-in_default : goal.returns-in_default
returns-in_default c = let a = c.args in c.late.ensures a.t.now _ (once_late a.s.now a.k a.at a.c a.t.now c.requires.1 c.line_once.ensures c.in_default.is)
