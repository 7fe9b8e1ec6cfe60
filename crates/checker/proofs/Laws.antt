-- Checking, way by way: a program refused by its names, by a type or by its last line; a text refused as it is read, by its program, or not at all. Assumes nothing.
use Rattle.std.specs.Result.{is_err}
use Rattle.std.specs.Prelude.{◌+◌, ◌≡◌, Result, Ok, Err}
use Rattle.rules.specs.Prelude.{ℕ, zero, suc, Bool, List, refl, sym, ap, ◌∙◌, subst, not, ltb, eqb, length}
use Rattle.rules.specs.declared.Answer.{Answer}
use Rattle.rules.specs.declared.Count.{Count}
use Rattle.rules.specs.declared.Verdict.{Verdict}
use Rattle.rules.specs.declared.Verdict.TheVariants as C
use Rattle.rules.specs.When.{One}
use Rattle.rules.specs.Limits.{limits}
use Rattle.rules.specs.Answers.{accepted, and_then, outcome, case_of}
use Rattle.rules.specs.declared.Tables.{Tables}
use Rattle.rules.specs.Text.Layout.{nothing, zeros}
use Rattle.rules.specs.Text.{TextOut, Lined, lined, and_line, line_at, lines_from, most_lines, read_text}
use Rattle.rules.specs.View.{program}
use Rattle.program.specs.Lines.{tables_of}
use Rattle.rules.specs.Names.{names}
use Rattle.rules.specs.Body.{ends}
use Rattle.rules.specs.Check.{check, checked, verdict}
use Rattle.rules.proofs.Laws.Tests.{by_when}
use Rattle.rules.proofs.Laws.Accepts.{refused_tables, accepted_tables, verdict_plain}
use Rattle.table.proofs.Passes.{then_no, then_on}
use Rattle.reader.specs.Read.{Holds, read_over, over_zeros}
use Rattle.names.specs.Trees.{names_in}
use Rattle.table.proofs.Passes.{accepts, refuses, outcome_on, outcome_no}
use Rattle.body.specs.Lines.{types_in}
use Rattle.body.specs.There.{check_is}
use Rattle.checker.proofs.Named.{names_by}
use Rattle.checker.specs.Says.{Says}

-- ---- a program: typing is asked first, and the names win

-- whether an answer refuses
told : (a : Answer) → is_err (outcome a) ≡ not (eqb a.number 0)
told a = by_when (λ (r : Result Unit Answer). is_err r ≡ not (eqb a.number 0)) (eqb a.number 0) _ _ (λ q. rw q) (λ q. rw q)

module _ (t : Tables) {b : Bool} {r : Result Unit Answer} (er : r ≡ outcome (types_in t)) (eb : b ≡ is_err r) where
  abbrev later : One → Answer
  later x = and_then (types_in t) (λ _. ends (program t))

  from_names : check (program t) ≡ and_then (names_in b (program t)) later
  from_names =
      let q : b ≡ not (eqb (types_in t).number 0) = eb ∙ ap is_err er ∙ told (types_in t) in
      let w : names (program t) ≡ names_in b (program t) = rw q (sym (names_by t (types_in t) refl)) in
      sym (check_is t) ∙ ap (λ (x : Answer). and_then x later) w

  pub by_names : {a : Answer} → Err a ≡ outcome (names_in b (program t)) → Err a ≡ outcome (check (program t))
  by_names e = outcome_no _ later e ∙ ap outcome (sym from_names)

  module _ (z : Ok tt ≡ outcome (names_in b (program t))) where
    on : check (program t) ≡ and_then (types_in t) (λ _. ends (program t))
    on = from_names ∙ outcome_on _ later z

    pub by_types : {a : Answer} → r ≡ Err a → Err a ≡ outcome (check (program t))
    by_types e = outcome_no _ (λ _. ends (program t)) (sym e ∙ er) ∙ ap outcome (sym on)

    pub by_ends : {u : Unit {0}} → r ≡ Ok u → {q : Result Unit Answer} → q ≡ outcome (ends (program t)) → q ≡ outcome (check (program t))
    by_ends e w = w ∙ ap outcome (sym (on ∙ outcome_on _ _ (sym e ∙ er)))

    -- with the tables named one by one, as the contract of `body::ended` names them
    pub by_last : {u : Unit {0}} → r ≡ Ok u → {q : Result Unit Answer} → q ≡ outcome (ends (program (tables_of t.size t.nodes t.rows t.vars t.labels t.body))) → q ≡ outcome (check (program t))
    by_last e w = by_ends e w

-- ---- a text that is refused leaves nothing

abbrev Clear : TextOut → Type 0
Clear o = (o.answer.number ≡ 0 → ⊥) → o.tables ≡ zeros

line_clear : (rest : ℕ → Count → Tables → TextOut) (line : ℕ) (x : Lined) → ((n : ℕ) (c : Count) (t : Tables) → Clear (rest n c t)) → Clear (and_line rest line x)
line_clear rest line (lined a n c t) f = by_when Clear (eqb a 0) _ _ (λ z. f n c t) (λ z h. refl)

lines_clear : (s : List ℕ) (left line at : ℕ) (c : Count) (t : Tables) → Clear (lines_from s left line at c t)
unfolding lines_from
lines_clear s zero line at c t = λ h. refl
lines_clear s (suc left) line at c t =
    by_when Clear (ltb at (length s)) _ _
    (λ z. line_clear (lines_from s left (line + 1)) line (line_at s at c t) (lines_clear s left (line + 1)))
    (λ z. by_when Clear (eqb c.part 0) _ _ (λ y h. refl) (λ y h. absurd (h refl)))

pub text_clear : (s : List ℕ) → Clear (read_text s)
unfolding read_text
text_clear s = by_when Clear (ltb limits.bytes (length s)) _ _ (λ z h. refl) (λ z. lines_clear s (most_lines + 1) 1 0 nothing zeros)

-- ---- the answer and the tables

pub refused : (s : List ℕ) (a : Answer) (v : Verdict) (t : Tables) → v ≡ case_of a → (checked s).verdict ≡ a → (a.number ≡ 0 → ⊥) → t ≡ zeros → Says (checked s) v t
unfolding verdict
refused s a v t k e n h = record { answer = k ∙ ap case_of (sym e); tables = h ∙ sym (refused_tables s (λ z. n (subst (λ (x : Answer). x.number ≡ 0) e z))) }

pub passed : (s : List ℕ) (a : Answer) (t : Tables) → (checked s).verdict ≡ a → a.number ≡ 0 → t ≡ (read_text s).tables → Says (checked s) C.Accepted t
unfolding verdict case_of
passed s a t e z h =
    let p : (checked s).verdict ≡ accepted = verdict_plain s (subst (λ (x : Answer). x.number ≡ 0) (sym e) z) in
    record { answer = sym (ap case_of p); tables = h ∙ sym (accepted_tables s p) }

-- what is read and judged as a program that refuses nothing is accepted
pub case_passed : (s : List ℕ) → (read_text s).answer.number ≡ 0 → (check (program (read_text s).tables)).number ≡ 0 → case_of (check (program (read_text s).tables)) ≡ C.Accepted
unfolding verdict checked case_of
case_passed s a z =
    let e : verdict s ≡ check (program (read_text s).tables) = then_on (read_text s).answer _ a in
    ap case_of (sym e ∙ verdict_plain s (subst (λ (x : Answer). x.number ≡ 0) (sym e) z))

-- ---- a text, read over tables that hold nothing

-- what an answer that refuses is handed on as
same : {a b : Answer} → Err a ≡ outcome b → (a ≡ b) × (a.number ≡ 0 → ⊥)
same {a} {b} e =
    let w = refuses b e in
    let q : Err a ≡ Err b = e ∙ w.1 in
    let s : a ≡ b = cc in
    (s, subst (λ (x : Answer). x.number ≡ 0 → ⊥) (sym s) w.0)

module _ (s : List ℕ) (t : Tables) (e : t ≡ zeros) {r : Result Unit Answer} {u : Tables} (h : Holds (read_over s t) r u) where
  fresh : read_over s t ≡ read_text s
  fresh = ap (read_over s) e ∙ over_zeros s

  answered : r ≡ outcome (read_text s).answer
  answered = h.answer ∙ ap (λ (o : TextOut). outcome o.answer) fresh

  pub as_read : u ≡ (read_text s).tables
  as_read = h.tables ∙ ap (λ (o : TextOut). o.tables) fresh

  abbrev rest : One → Answer
  rest x = check (program (read_text s).tables)

  pub by_reading : {a : Answer} → r ≡ Err a → {v : Verdict} → v ≡ case_of a → Says (checked s) v u
  unfolding checked
  by_reading {a} q {v} k =
      let w = same (sym q ∙ answered) in
      let n : ((read_text s).answer.number ≡ 0 → ⊥) = subst (λ (x : Answer). x.number ≡ 0 → ⊥) w.0 w.1 in
      refused s a v u k (sym (then_no (read_text s).answer rest n) ∙ sym w.0) w.1 (as_read ∙ text_clear s n)

  module _ (q : r ≡ Ok tt) {p : Result Unit Answer} (ep : p ≡ outcome (check (program u))) where
    judged : (checked s).verdict ≡ check (program u)
    unfolding checked
    judged = outcome_on (read_text s).answer rest (sym q ∙ answered) ∙ sym (ap (λ (x : Tables). check (program x)) as_read)

    pub by_program : {a : Answer} → p ≡ Err a → {v : Verdict} → v ≡ case_of a → {x : Tables} → x ≡ zeros → Says (checked s) v x
    by_program {a} y {v} k {x} z = let w = same (sym y ∙ ep) in refused s a v x k (judged ∙ sym w.0) w.1 z

    pub by_neither : p ≡ Ok tt → Says (checked s) C.Accepted u
    by_neither y = passed s _ u judged (accepts _ (sym y ∙ ep)) as_read
