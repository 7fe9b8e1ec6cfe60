-- By whether a line feed stands after the shape, and by whether a limit is passed.
use Rattle.std.proofs.Common.{Option, ap, sym, arith, ◌+◌, ◌∙◌}
use Rattle.rules.specs.declared.Count.{Count}
use Rattle.rules.specs.declared.Key.{Key}
use Rattle.rules.specs.Text.Fill.{fill_line}
use Rattle.rules.specs.Text.Layout.{nothing}
use Rattle.reader.specs.Read.{given, settled}
use Rattle.reader.proofs.Once.{kept_none, passed, same_number}
use Rattle.reader.proofs.Ways.{feed, no_feed}
use Rattle.reader.proofs.shaped_line.Goals as goal

pub returns-then-byte_at-ne10 : goal.returns-then-byte_at-ne10
returns-then-byte_at-ne10 c = let a = c.args in same_number 2 0 a.n nothing a.c a.t.now a.t.now (λ e. omega (arith, e)) ∙ sym (ap settled (no_feed a.s.now a.at a.c a.t.now a.k a.n (λ e. c.if-byte_at-ne10.true (c.byte_at.ensures ∙ e))))

pub returns-in_default : goal.returns-in_default
returns-in_default c =
    let a = c.args in
    passed a.k 0 (a.n + 1) nothing c.fill_line.new.t (fill_line a.s.now c.key_of.result a.at a.c a.t.now) (kept_none _ (ap (λ (r : Option Count). given r c.fill_line.new.t) (sym c.in_default.is) ∙ c.fill_line.ensures))
    ∙ sym (ap settled (feed a.s.now a.at a.c a.t.now a.k a.n (sym c.byte_at.ensures ∙ c.if-byte_at-ne10.false) (ap (λ (x : Key). fill_line a.s.now x a.at a.c a.t.now) c.key_of.ensures)))
