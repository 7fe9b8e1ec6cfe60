-- The line that was read, as the code hands it on.
use Rattle.std.proofs.Common.{sym, ◌∙◌, ◌≡◌, Ok, arith}
use Rattle.std.proofs.lemmas.Grind.{common_steps}
use Rattle.tally.proofs.Laws.{few_line}
use Rattle.tally.proofs.Ways.{line_goes}
use Rattle.tally.proofs.lines.Goals as goal

pub loop-line-preserved : goal.loop-line-preserved
loop-line-preserved c =
    let l = c.loop-line in
    let a = c.args in
    let q : c.line_at.result ≡ Ok (c.in_ok-at.field-0-0, c.in_ok-at.field-0-1) = grind (arith, common_steps) in (
      few_line a.s.now a.params l.at l.line-counter l.c l.invariant.0 c.line_at.ensures q,
      sym (line_goes a.s.now a.params l.line-counter l.at l.c 291 (omega arith) (omega arith) c.line_at.ensures q) ∙ l.invariant.1,
    )
