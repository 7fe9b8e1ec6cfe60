-- By the key.
use Rattle.std.proofs.Common.{ap, arith, sym, ◌∙◌}
use Rattle.rules.specs.Text.{keyed, line_at}
use Rattle.text.proofs.Laws.{got}
use Rattle.shape.proofs.Laws.{key_reads}
use Rattle.rules.specs.Text.Words.{Reading}
use Rattle.rules.specs.Text.Layout.{nothing}
use Rattle.reader.proofs.Once.{same_number}
use Rattle.reader.specs.Read.{settled}
use Rattle.reader.proofs.line_at.Goals as goal

pub keyed_line-requires : goal.keyed_line-requires
keyed_line-requires c = let g = got (key_reads c.args.s.now c.args.at) (sym c.in-Ok.ensures) in record { placed = record { inside = g.ends; short = c.requires.placed.short }; within = c.requires.within }

pub returns-in_default : goal.returns-in_default
unfolding line_at
returns-in_default c = let a = c.args in same_number 2 0 _ nothing a.c a.t.now a.t.now (λ e. omega (arith, e)) ∙ ap (λ (r : Reading). settled (keyed a.s.now a.at a.c a.t.now r)) c.in_default.ensures
