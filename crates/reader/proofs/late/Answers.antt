-- By the shape, and by whether a line feed stands after it.
use Rattle.std.proofs.Common.{sym, ◌∙◌}
use Rattle.rules.specs.Text.Layout.{nothing}
use Rattle.reader.proofs.Once.{late_bad, late_no_feed, late_limit}
use Rattle.reader.proofs.late.Goals as goal

pub returns-in_default : goal.returns-in_default
returns-in_default c = let a = c.args in λ t u l. late_bad a.s.now a.k a.at a.c t u c.line_shape.ensures 0 nothing c.in_default.is

pub returns-then-byte_at-eq10 : goal.returns-then-byte_at-eq10
returns-then-byte_at-eq10 c = let a = c.args in λ t u l. late_limit a.s.now a.k a.at a.c t u c.line_shape.ensures c.in-Ok.is 0 nothing (sym c.byte_at.ensures ∙ c.if-byte_at-eq10.true) l

pub returns-else-byte_at-eq10 : goal.returns-else-byte_at-eq10
returns-else-byte_at-eq10 c = let a = c.args in λ t u l. late_no_feed a.s.now a.k a.at a.c t u c.line_shape.ensures c.in-Ok.is 0 nothing (λ q. c.if-byte_at-eq10.false (c.byte_at.ensures ∙ q))
