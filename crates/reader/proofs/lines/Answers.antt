-- One turn a line, as the invariant says.
use Rattle.std.proofs.Common.{Err, ap, arith, refl, subst, sym, ℕ, Result, ◌≡◌, ◌+◌, ◌-◌, ◌∙◌}
use Rattle.rules.specs.declared.Count.{Count}
use Rattle.rules.specs.Text.{lined, line_at, lines_from, stopped}
use Rattle.rules.specs.Text.Layout.{nothing}
use Rattle.rules.specs.Answers.{answer}
use Rattle.reader.specs.Read.{Closed, handed, settled}
use Rattle.reader.proofs.Laws.{FitsLined, line_fits}
use Rattle.reader.proofs.Once.{fits_on, refusal, settled_fits}
use Rattle.reader.proofs.Ways.{closed_refused, lines_end, lines_line, lines_over, refused}
use Rattle.reader.proofs.lines.Goals as goal

pub returns-then-s-at : goal.returns-then-s-at
returns-then-s-at c = let a = c.args in let l = c.loop-line in subst (Closed c.ended.result _) (sym (lines_end l.c l.t a.s.now l.line l.at (611 - l.line) (omega arith) c.if-s-at.true) ∙ l.invariant.1) (c.ended.ensures l.t)

pub returns-in-Err : goal.returns-in-Err
returns-in-Err c =
    let a = c.args in
    let l = c.loop-line in
    let e = c.line_at in
    let n = c.in-Err.number in
    let same : settled (lined n 0 nothing e.new.t) ≡ settled (line_at a.s.now l.at l.c l.t) = ap (λ (r : Result (ℕ × Count) ℕ). settled (handed r e.new.t)) (sym c.in-Err.is) ∙ e.ensures in
    let ne : n ≡ 0 → ⊥ = refusal a.s.now l.at l.c l.t e.new.t n same in
    subst (Closed (Err (answer n l.line)) e.new.t)
    (refused nothing e.new.t (lines_from a.s.now (611 - l.line - 1) (l.line + 1)) l.line 0 n ne
    ∙ sym (lines_line l.c l.t a.s.now l.line l.at (611 - l.line) (lined n 0 nothing e.new.t) (omega arith) (omega arith) same)
    ∙ l.invariant.1)
    (closed_refused (answer n l.line) e.new.t ne)

pub loop-line-preserved : goal.loop-line-preserved
loop-line-preserved c =
    let a = c.args in
    let l = c.loop-line in
    let e = c.line_at in
    let n = c.in-Ok.next in
    let d = c.in-Ok.d in
    let same : settled (lined 0 n d e.new.t) ≡ settled (line_at a.s.now l.at l.c l.t) = ap (λ (r : Result (ℕ × Count) ℕ). settled (handed r e.new.t)) (sym c.in-Ok.is) ∙ e.ensures in
    let q : 611 - (l.line + 1) ≡ 611 - l.line - 1 = omega arith in (
      fits_on 0 n d e.new.t refl (subst FitsLined (sym same) (settled_fits (line_at a.s.now l.at l.c l.t) (line_fits a.s.now l.at l.c l.t l.invariant.0))),
      (λ i. lines_from a.s.now (q i) (l.line + 1) n d e.new.t) ∙ sym (lines_line l.c l.t a.s.now l.line l.at (611 - l.line) (lined 0 n d e.new.t) (omega arith) (omega arith) same) ∙ l.invariant.1,
    )

pub returns : goal.returns
returns c = let a = c.args in let l = c.loop-line in let q : 611 ≡ l.line = omega arith in subst (Closed (Err (answer 3 611)) l.t) ((λ i. stopped (answer 3 (q i))) ∙ sym (lines_over l.c l.t a.s.now l.line l.at (611 - l.line) (omega arith)) ∙ l.invariant.1) (closed_refused (answer 3 611) l.t (λ e. omega (arith, e)))
