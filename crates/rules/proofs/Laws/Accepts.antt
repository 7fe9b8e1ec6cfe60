-- The answer is 0 exactly if its line is 0 and no stage refuses. Assumes nothing.
use Rattle.std.proofs.lemmas.Bool.{eqb-false}
use Rattle.std.proofs.Common.{ne_eqb, arith as lin}
use Rattle.std.specs.Prelude.{◌+◌, ◌≡◌, ◌↔◌}
use Rattle.rules.specs.Prelude.{ℕ, zero, suc, List, ap, ltb, eqb, length, Answer, Count}
use Rattle.rules.specs.Limits.{limits}
use Rattle.rules.specs.Answers.{answer, accepted, and_then}
use Rattle.rules.specs.declared.Tables.{Tables}
use Rattle.rules.specs.Text.Layout.{nothing, zeros}
use Rattle.rules.specs.Text.{Lined, lined, TextOut, and_line, lines_from, read_text, most_lines, line_at}
use Rattle.rules.specs.Program.{Prog}
use Rattle.rules.specs.View.{program}
use Rattle.rules.specs.Names.{names}
use Rattle.rules.specs.Body.{types, ends, is_end, last_of, last_line}
use Rattle.rules.specs.Check.{check, checked, verdict}
use Rattle.rules.proofs.Laws.Tests.{by_need, by_when}
use Rattle.rules.proofs.Laws.Stages.{Plain, accepted_plain, refused_plain, first_plain, then_exactly, then_plain}

-- ---- no stage gives the number 0 with another line

names_plain : (P : Prog) → Plain (names P)
unfolding names
names_plain P = first_plain 1 _

types_plain : (P : Prog) → Plain (types P)
unfolding types
types_plain P = first_plain (2 + length P.rows) _

ends_plain : (P : Prog) → Plain (ends P)
unfolding ends
ends_plain P = by_need Plain (answer 13 (last_line P)) (is_end (last_of P.body)) accepted (refused_plain 13 (last_line P) (omega lin)) (λ h. accepted_plain)

check_plain : (P : Prog) → Plain (check P)
unfolding check
check_plain P = then_plain (names P) _ (names_plain P) (then_plain (types P) _ (types_plain P) (ends_plain P))

abbrev PlainText : TextOut → Type 0
PlainText o = Plain o.answer

lines_plain : (s : List ℕ) (left line at : ℕ) (c : Count) (t : Tables) → PlainText (lines_from s left line at c t)
unfolding lines_from
lines_plain s zero line at c t = refused_plain 3 line (omega lin)
lines_plain s (suc left) line at c t =
    by_when PlainText (ltb at (length s)) _ _ (λ z. one (line_at s at c t) (λ n d u. lines_plain s left (line + 1) n d u))
    (λ z. by_when PlainText (eqb c.part 0) _ _ (λ q. refused_plain 2 1 (omega lin)) (λ q. accepted_plain))
  where
    one : (x : Lined) → ((n : ℕ) (d : Count) (u : Tables) → PlainText (lines_from s left (line + 1) n d u)) → PlainText (and_line (lines_from s left (line + 1)) line x)
    one (lined a n d u) f = by_when PlainText (eqb a 0) _ _ (λ z. f n d u) (λ z h. absurd (eqb-false a 0 z h))

pub reading_plain : (s : List ℕ) → PlainText (read_text s)
unfolding read_text
reading_plain s = by_when PlainText (ltb limits.bytes (length s)) _ _ (λ z. refused_plain 1 0 (omega lin)) (λ z. lines_plain s (most_lines + 1) 1 0 nothing zeros)

-- ---- accepted: every stage refuses nothing

pub check_exactly : (P : Prog) → (check P ≡ accepted) ↔ ((names P ≡ accepted) × (types P ≡ accepted) × (ends P ≡ accepted))
unfolding check
check_exactly P =
    let (f, g) = then_exactly (names P) (λ _. and_then (types P) (λ _. ends P)) (names_plain P) in
    let (h, k) = then_exactly (types P) (λ _. ends P) (types_plain P) in
    ((λ e. ((f e).0, (h (f e).1).0, (h (f e).1).1)), λ e. g (e.0, k (e.1, e.2)))

-- the program that a text was read as
abbrev pub read_as : List ℕ → Prog
read_as s = program (read_text s).tables

pub verdict_exactly : (s : List ℕ) → (verdict s ≡ accepted) ↔ (((read_text s).answer ≡ accepted) × (check (read_as s) ≡ accepted))
unfolding verdict checked
verdict_exactly s = then_exactly (read_text s).answer (λ _. check (read_as s)) (reading_plain s)

pub verdict_plain : (s : List ℕ) → Plain (verdict s)
unfolding verdict checked
verdict_plain s = then_plain (read_text s).answer (λ _. check (read_as s)) (reading_plain s) (check_plain (read_as s))

-- the answer is 0 exactly if the line is 0 and no stage refuses
pub zero_exactly : (s : List ℕ) → ((verdict s).number ≡ 0) ↔ (((verdict s).line ≡ 0) × ((read_text s).answer ≡ accepted) × (names (read_as s) ≡ accepted) × (types (read_as s) ≡ accepted) × (ends (read_as s) ≡ accepted))
zero_exactly s = (to, λ h. ap (λ (a : Answer). a.number) ((verdict_exactly s).1 (h.1, (check_exactly (read_as s)).1 (h.2, h.3, h.4))))
  where
    to : (verdict s).number ≡ 0 → ((verdict s).line ≡ 0) × ((read_text s).answer ≡ accepted) × (names (read_as s) ≡ accepted) × (types (read_as s) ≡ accepted) × (ends (read_as s) ≡ accepted)
    to h =
        let a = verdict_plain s h in
        let b = (verdict_exactly s).0 a in
        let c = (check_exactly (read_as s)).0 b.1 in
        (ap (λ (x : Answer). x.line) a, b.0, c.0, c.1, c.2)

-- the tables of an accepted text are those that were read
pub accepted_tables : (s : List ℕ) → verdict s ≡ accepted → (checked s).tables ≡ (read_text s).tables
unfolding verdict checked
accepted_tables s h = rw h

-- the tables of a refused text are zero
pub refused_tables : (s : List ℕ) → ((verdict s).number ≡ 0 → ⊥) → (checked s).tables ≡ zeros
unfolding verdict checked
refused_tables s h = rw (ne_eqb (verdict s).number 0 h)
